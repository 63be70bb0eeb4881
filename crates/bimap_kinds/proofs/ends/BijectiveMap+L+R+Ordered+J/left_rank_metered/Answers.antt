use Rattle.bimap_base.specs.Slots.{left_at}
use Rattle.bimap_index.specs.OrderLaws.{order_settled}
use Rattle.bimap_core.proofs.Below.{count_pairs}
use Rattle.std.proofs.Common.{◌∙◌, rules}
use Rattle.bimap_kinds.proofs.ends.BijectiveMap+L+R+Ordered+J.left_rank_metered.Goals as goal

pub returns-clause-comparisons : goal.returns-clause-comparisons
returns-clause-comparisons g c = search rules

pub returns-clause-touches : goal.returns-clause-touches
returns-clause-touches g c = search rules

pub rank_of-requires : goal.rank_of-requires
rank_of-requires g c =
    let t = c.args.self.now.table in
    rw (c.new-lefts.ensures, c.new.ensures) (order_settled g.L.Ord.cmp g.L.PartialEq.eq g.met.L.Ord.total g.met.L.Ord.matches_eq t.left.places (left_at t.pairs) t.left_listing).up

pub returns-clause-rank : goal.returns-clause-rank
unfolding Rattle.bimap_kinds.specs.HeldTable.held
returns-clause-rank g c =
    let t = c.args.self.now.table in
    let rank = rw (c.new-lefts.ensures, c.new.ensures) at c.rank_of.ensures.rank in
    rank ∙ count_pairs (λ p. p.0) g.Q.OrderQuery.order t.pairs c.args.left t.left.places

use Rattle.std.proofs.Common.{◌∙◌}
use Rattle.bimap_base.specs.Slots.{right_at}
use Rattle.bimap_index.specs.OrderLaws.{order_settled}
use Rattle.bimap_core.proofs.Below.{count_pairs}
use Rattle.bimap_kinds.proofs.Walk.{left_walk, sorted_walk}
use Rattle.bimap_kinds.proofs.ends.BijectiveMap+L+R+I+Ordered.right_rank_metered.Goals as goal

pub returns-clause-sorted : goal.returns-clause-sorted
returns-clause-sorted g c =
    let table = c.args.self.now.table in
    sorted_walk table g.met.R.Ord.total g.met.R.Ord.matches_eq (left_walk table g.met.I.Index.listed g.met.I.Index.distinct g.met.I.Index.settled) table.right_listing

pub rank_of-requires : goal.rank_of-requires
rank_of-requires g c =
    let t = c.args.self.now.table in
    rw (c.new-rights.ensures, c.new.ensures) (order_settled g.R.Ord.cmp g.R.PartialEq.eq g.met.R.Ord.total g.met.R.Ord.matches_eq t.right.places (right_at t.pairs) t.right_listing).up

pub returns-clause-rank : goal.returns-clause-rank
unfolding Rattle.bimap_kinds.specs.HeldTable.held_by_right
returns-clause-rank g c =
    let t = c.args.self.now.table in
    let rank = rw (c.new-rights.ensures, c.new.ensures) at c.rank_of.ensures.rank in
    rank ∙ count_pairs (λ p. p.1) g.Q.OrderQuery.order t.pairs c.args.right t.right.places

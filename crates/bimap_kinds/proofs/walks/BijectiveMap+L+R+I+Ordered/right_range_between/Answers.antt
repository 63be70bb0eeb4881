use Rattle.bimap_base.specs.Slots.{right_at}
use Rattle.bimap_index.specs.OrderLaws.{order_settled}
use Rattle.bimap_kinds.proofs.Walk.{left_walk, sorted_walk}
use Rattle.bimap_kinds.proofs.walks.BijectiveMap+L+R+I+Ordered.right_range_between.Goals as goal

pub range-requires-clause-ascends : goal.range-requires-clause-ascends
range-requires-clause-ascends g c =
    let table = c.args.self.now.table in
    rw (c.new-rights.ensures, c.new.ensures) (order_settled g.R.Ord.cmp g.R.PartialEq.eq g.met.R.Ord.total g.met.R.Ord.matches_eq table.right.places (right_at table.pairs) table.right_listing).up

pub returns-clause-sorted : goal.returns-clause-sorted
returns-clause-sorted g c =
    let table = c.args.self.now.table in
    sorted_walk table g.met.R.Ord.total g.met.R.Ord.matches_eq (left_walk table g.met.I.Index.listed g.met.I.Index.distinct g.met.I.Index.settled) table.right_listing

pub returns-clause-rest : goal.returns-clause-rest
unfolding Rattle.bimap_kinds.specs.HeldTable.held_by_right
returns-clause-rest g c = search

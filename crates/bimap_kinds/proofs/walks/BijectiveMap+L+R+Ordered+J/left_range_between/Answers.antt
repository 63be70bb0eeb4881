use Rattle.bimap_base.specs.Slots.{left_at}
use Rattle.bimap_index.specs.OrderLaws.{order_settled}
use Rattle.bimap_kinds.proofs.walks.BijectiveMap+L+R+Ordered+J.left_range_between.Goals as goal

pub range-requires-clause-ascends : goal.range-requires-clause-ascends
range-requires-clause-ascends g c =
    let table = c.args.self.now.table in
    rw (c.new-lefts.ensures, c.new.ensures) (order_settled g.L.Ord.cmp g.L.PartialEq.eq g.met.L.Ord.total g.met.L.Ord.matches_eq table.left.places (left_at table.pairs) table.left_listing).up

pub returns-clause-rest : goal.returns-clause-rest
unfolding Rattle.bimap_kinds.specs.HeldTable.held
returns-clause-rest g c = search

use Rattle.bimap_base.specs.Slots.{right_at}
use Rattle.bimap_index.specs.OrderLaws.{order_settled}
use Rattle.std.specs.Map.Iter.{deref}
use Rattle.std_collections.proofs.IterRuns.{shows_in_order, shows_in_reverse}
use Rattle.bimap_kinds.proofs.Walk.{left_walk, sorted_walk}
use Rattle.bimap_kinds.proofs.walks.BijectiveMap+L+R+I+Ordered.right_values.Goals as goal

pub walk-requires-clause-listing : goal.walk-requires-clause-listing
walk-requires-clause-listing g c =
    let table = c.args.self.now.table in
    rw c.new-rights.ensures (order_settled g.R.Ord.cmp g.R.PartialEq.eq g.met.R.Ord.total g.met.R.Ord.matches_eq table.right.places (right_at table.pairs) table.right_listing)

pub returns-clause-sorted : goal.returns-clause-sorted
returns-clause-sorted g c =
    let table = c.args.self.now.table in
    sorted_walk table g.met.R.Ord.total g.met.R.Ord.matches_eq (left_walk table g.met.I.Index.listed g.met.I.Index.distinct g.met.I.Index.settled) table.right_listing

pub returns-clause-runs : goal.returns-clause-runs
returns-clause-runs g c = shows_in_order deref

pub returns-clause-runs_back : goal.returns-clause-runs_back
returns-clause-runs_back g c = shows_in_reverse deref

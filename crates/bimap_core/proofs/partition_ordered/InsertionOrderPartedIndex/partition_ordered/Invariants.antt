use Rattle.std.proofs.Common.{◌≡◌, length}
use Rattle.bimap_base.specs.PairsAt.{pairs_at}
use Rattle.bimap_core.proofs.InOrder.{IsTestedAlong}
use Rattle.bimap_core.proofs.partition_ordered.InsertionOrderPartedIndex.partition_ordered.Given as goal

abbrev pub invariant-loop : goal.invariant-loop
invariant-loop g l = record {
  along : IsTestedAlong g.F.FnMut g.S.Outlet.has_room g.S.Outlet.receives l.fn.goes l.fn.f l.f l.fn.outlet l.outlet (pairs_at l.fn.table.pairs l.fn.table.left.list.places) (pairs_at l.table.pairs l.table.left.list.places) l.table.left.list.places l.next l.counter;
  room : length l.table.pairs ≡ length l.fn.table.pairs;
}

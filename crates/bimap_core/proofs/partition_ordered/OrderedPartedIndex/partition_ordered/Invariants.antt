use Rattle.std.proofs.Common.{◌≡◌, ◌-◌, length}
use Rattle.bimap_base.specs.PairsAt.{pairs_at}
use Rattle.bimap_base.specs.Slots.{pair_count}
use Rattle.bimap_core.proofs.InOrder.{IsTestedUpTo}
use Rattle.bimap_tree.specs.Batches.{IsBatch}
use Rattle.bimap_core.proofs.partition_ordered.OrderedPartedIndex.partition_ordered.Given as goal

abbrev pub invariant-loop-rank : goal.invariant-loop-rank
invariant-loop-rank g l = record {
  so_far : IsTestedUpTo g.F.FnMut g.S.Outlet.has_room g.S.Outlet.receives l.fn.goes l.fn.f l.f l.fn.outlet l.outlet (pairs_at l.fn.table.pairs l.fn.table.left.places) (pairs_at l.table.pairs l.table.left.places) l.rank;
  room : length l.table.pairs ≡ length l.fn.table.pairs;
  batch : IsBatch l.table.left.places l.batch;
}

abbrev pub decreases-loop-rank : goal.decreases-loop-rank
decreases-loop-rank g l = pair_count l.table.pairs - l.rank

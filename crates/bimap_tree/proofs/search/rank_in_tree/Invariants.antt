use Rattle.bimap_tree.specs.IndexView.{height_at}
use Rattle.bimap_tree.proofs.Descents.{Costs, Counts}
use Rattle.bimap_tree.proofs.search.rank_in_tree.Given as goal

abbrev pub invariant-loop-root : goal.invariant-loop-root
invariant-loop-root g l =
    record {
      counts : Counts l.cells (g.S.SearchKey.live l.sought) (g.S.SearchKey.go l.sought) l.fn.root l.root l.rank;
      compared : Costs l.cells l.fn.root 1 (g.M.Meter.comparisons l.initial.meter) l.root (g.M.Meter.comparisons l.meter);
      touched : Costs l.cells l.fn.root 2 (g.M.Meter.touches l.initial.meter) l.root (g.M.Meter.touches l.meter);
    }

abbrev pub decreases-loop-root : goal.decreases-loop-root
decreases-loop-root g l = height_at l.cells l.root

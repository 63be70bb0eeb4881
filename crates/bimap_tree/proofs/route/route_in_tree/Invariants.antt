use Rattle.std.proofs.Common.{◌+◌, cond}
use Rattle.bimap_tree.specs.IndexView.{height_at}
use Rattle.bimap_tree.proofs.Descents.{Costs, Goes}
use Rattle.bimap_tree.proofs.route.route_in_tree.Given as goal

abbrev pub invariant-loop-root : goal.invariant-loop-root
invariant-loop-root g l =
    record {
      goes : Goes l.cells (g.S.SearchKey.live l.sought) (g.S.SearchKey.go l.sought) l.fn.root l.fn.route l.fn.depth l.root l.route l.depth;
      compared : Costs l.cells l.fn.root 1 (g.M.Meter.comparisons l.initial.meter) l.root (g.M.Meter.comparisons l.meter);
      touched : Costs l.cells l.fn.root (1 + cond l.fn.ahead 2 0) (g.M.Meter.touches l.initial.meter) l.root (g.M.Meter.touches l.meter);
    }

abbrev pub decreases-loop-root : goal.decreases-loop-root
decreases-loop-root g l = height_at l.cells l.root

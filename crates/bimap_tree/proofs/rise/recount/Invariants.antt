use Rattle.std.proofs.Common.{◌≡◌, ◌+◌, ◌≤◌}
use Rattle.bimap_tree.proofs.Climbs.{Stays, StaysAt, Climbs}
use Rattle.bimap_tree.proofs.rise.recount.Given as goal

abbrev pub invariant-loop-depth : goal.invariant-loop-depth
invariant-loop-depth g l =
    record {
      climbs : Climbs l.fn.cells (g.W.Steps.notes l.notes) l.grew l.fn.depth (Stays l.fn.child) (Unit {0}) l.cells l.depth (StaysAt l.top);
      compared : g.M.Meter.comparisons l.meter ≡ g.M.Meter.comparisons l.initial.meter;
      touched : g.M.Meter.touches l.meter + l.depth ≤ g.M.Meter.touches l.initial.meter + l.initial.depth;
    }

abbrev pub decreases-loop-depth : goal.decreases-loop-depth
decreases-loop-depth g l = l.depth

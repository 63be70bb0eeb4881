use Rattle.std.proofs.Common.{◌≡◌, ◌+◌, ◌*◌, ◌≤◌}
use Rattle.bimap_tree.proofs.Climbs.{Replaces, Climbs}
use Rattle.bimap_tree.proofs.rise.rise.Given as goal

abbrev pub invariant-loop-child : goal.invariant-loop-child
invariant-loop-child g l =
    record {
      climbs : Climbs l.fn.cells (g.W.Steps.notes l.notes) l.grew l.fn.depth (Replaces l.fn.child l.fn.was) ⊥ l.cells l.depth (Replaces l.child l.was);
      compared : g.M.Meter.comparisons l.meter ≡ g.M.Meter.comparisons l.initial.meter;
      touched : g.M.Meter.touches l.meter + 11 * l.depth ≤ g.M.Meter.touches l.initial.meter + 11 * l.fn.depth;
    }

abbrev pub decreases-loop-child : goal.decreases-loop-child
decreases-loop-child g l = l.depth

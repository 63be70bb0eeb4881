use Rattle.std.proofs.Common.{◌≡◌}
use Rattle.bimap_tree.specs.IndexView.{height_at}
use Rattle.bimap_tree.proofs.Descents.{Costs}
use Rattle.bimap_tree.proofs.EndRoutes.{Notes_on}
use Rattle.bimap_tree.proofs.route.note_end.Given as goal

abbrev pub invariant-loop-root : goal.invariant-loop-root
invariant-loop-root g l =
    record {
      notes : Notes_on l.cells l.fn.at l.direction l.fn.route l.fn.depth l.root l.route l.depth l.end;
      compared : g.M.Meter.comparisons l.meter ≡ g.M.Meter.comparisons l.initial.meter;
      touched : Costs l.cells l.fn.at 1 (g.M.Meter.touches l.initial.meter) l.root (g.M.Meter.touches l.meter);
    }

abbrev pub decreases-loop-root : goal.decreases-loop-root
decreases-loop-root g l = height_at l.cells l.root

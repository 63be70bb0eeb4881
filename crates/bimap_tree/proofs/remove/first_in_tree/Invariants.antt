use Rattle.std.proofs.Common.{◌≡◌, Some}
use Rattle.bimap_tree.specs.IndexView.{height_at}
use Rattle.bimap_tree.proofs.Descents.{Costs, Descends}
use Rattle.bimap_tree.proofs.remove.first_in_tree.Given as goal

abbrev pub invariant-loop-left : goal.invariant-loop-left
invariant-loop-left g l =
    record {
      descends : Descends l.cells l.fn.at l.fn.depth (g.W.Steps.notes l.fn.notes) l.at l.depth (g.W.Steps.notes l.notes);
      compared : g.M.Meter.comparisons l.meter ≡ g.M.Meter.comparisons l.initial.meter;
      touched : Costs l.cells (Some l.fn.at) 1 (g.M.Meter.touches l.initial.meter) (Some l.at) (g.M.Meter.touches l.meter);
    }

abbrev pub decreases-loop-left : goal.decreases-loop-left
decreases-loop-left g l = height_at l.cells (Some l.at)

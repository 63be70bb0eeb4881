use Rattle.std.proofs.Common.{◌≡◌, ◌+◌, ◌≤◌}
use Rattle.bimap_tree.specs.Notes.{long_notes_of, notes_of}
use Rattle.bimap_tree.proofs.Retracing.{Retraces}
use Rattle.bimap_tree.proofs.notes.retraced.Given as goal

abbrev pub invariant-loop-depth : goal.invariant-loop-depth
invariant-loop-depth g l =
    record {
      retraces : Retraces l.cells l.fn.root (notes_of l.route) l.root (long_notes_of l.notes) l.depth;
      length : l.notes.depth ≡ l.route.depth;
      compared : g.M.Meter.comparisons l.meter ≡ g.M.Meter.comparisons l.initial.meter;
      touched : g.M.Meter.touches l.meter ≤ g.M.Meter.touches l.initial.meter + l.depth;
    }

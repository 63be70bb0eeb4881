use Rattle.std.proofs.Common.{◌≡◌, ◌+◌, ◌*◌, ◌≤◌}
use Rattle.bimap_tree.proofs.levels.read_children.Given as goal

abbrev pub invariant-loop-k : goal.invariant-loop-k
invariant-loop-k g l = record {
  compared : g.M.Meter.comparisons l.meter ≡ g.M.Meter.comparisons l.fn.meter;
  touched : g.M.Meter.touches l.meter + 3 * l.fn.head ≤ g.M.Meter.touches l.fn.meter + 3 * l.k;
}

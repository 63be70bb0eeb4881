use Rattle.std.proofs.Common.{◌≡◌, ◌+◌, ◌*◌, ◌≤◌, length}
use Rattle.bimap_tree.specs.Queued.{AreRooted}
use Rattle.bimap_tree.proofs.levels.enqueue_children.Given as goal

abbrev pub invariant-loop-k : goal.invariant-loop-k
invariant-loop-k g l = record {
  rooted : AreRooted l.cells l.queue l.tail;
  least : l.fn.end ≤ l.tail;
  most : l.tail + 2 * l.fn.head ≤ l.fn.end + 2 * l.k;
  compared : g.M.Meter.comparisons l.meter ≡ g.M.Meter.comparisons l.fn.meter;
  touched : g.M.Meter.touches l.meter + 3 * l.fn.head ≤ g.M.Meter.touches l.fn.meter + 3 * l.k;
}

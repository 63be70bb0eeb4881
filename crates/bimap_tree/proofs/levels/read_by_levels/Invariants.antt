use Rattle.std.proofs.Common.{◌≡◌, ◌+◌, ◌*◌, ◌-◌, ◌≤◌, length}
use Rattle.bimap_tree.specs.Queued.{AreRooted}
use Rattle.bimap_tree.proofs.levels.read_by_levels.Given as goal

abbrev pub invariant-loop-head : goal.invariant-loop-head
invariant-loop-head g l = record {
  long : length l.queue ≡ 128;
  rooted : AreRooted l.cells l.queue l.tail;
  order : l.head ≤ l.tail;
  few : l.head ≤ 42;
  most : l.tail ≤ 126;
  compared : g.M.Meter.comparisons l.meter ≡ g.M.Meter.comparisons l.fn.meter;
  touched : g.M.Meter.touches l.meter ≤ g.M.Meter.touches l.fn.meter + 6 * l.head;
}

abbrev pub decreases-loop-head : goal.decreases-loop-head
decreases-loop-head g l = 42 - l.head

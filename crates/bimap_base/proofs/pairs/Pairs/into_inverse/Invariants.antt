use Rattle.std.proofs.Common.{◌≡◌, ◌≤◌, ◌+◌, ◌++◌, length, map, vec_capacity}
use Rattle.std.specs.Vec.Iter.{into_iter_items}
use Rattle.bimap_base.specs.InverseSlots.{inverse_slot}
use Rattle.bimap_base.proofs.pairs.Pairs.into_inverse.Given as goal

abbrev pub invariant-loop-slot : goal.invariant-loop-slot
invariant-loop-slot g l = record {
  turned : l.turned.items ≡ map inverse_slot l.yielded;
  room : length l.yielded + length (into_iter_items l.slot-iterator) ≤ vec_capacity l.turned;
  whole : l.yielded ++ into_iter_items l.slot-iterator ≡ into_iter_items l.initial.slot-iterator;
}

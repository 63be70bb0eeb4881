use Rattle.std.proofs.Common.{◌≡◌, ◌≤◌, ◌++◌, map, Some, vec_capacity}
use Rattle.std.specs.Vec.Iter.{into_iter_items}
use Rattle.bimap_base.specs.Places.{pairs_in}
use Rattle.bimap_base.specs.FreeSlots.{pair_of}
use Rattle.bimap_base.proofs.pairs.Pairs.compact.Given as goal

abbrev pub invariant-loop-slot : goal.invariant-loop-slot
invariant-loop-slot g l = record {
  moved : map pair_of l.self-inside.slots.items ≡ map Some (pairs_in (map pair_of l.yielded));
  room : l.to ≤ vec_capacity l.self-inside.slots;
  count : l.self-inside.len ≡ l.initial.self-inside.len;
  whole : l.yielded ++ into_iter_items l.slot-iterator ≡ into_iter_items l.initial.slot-iterator;
}

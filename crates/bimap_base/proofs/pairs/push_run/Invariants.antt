use Rattle.std.proofs.Common.{◌≡◌, ℕ, ◌+◌, ◌-◌, ◌<◌, ◌≤◌, Some, slice_get, vec_len, vec_capacity}
use Rattle.bimap_base.specs.declared.pairs.Slot.TheVariants.{Free}
use Rattle.bimap_base.specs.FreeSlots.{AddsFree}
use Rattle.bimap_base.proofs.pairs.push_run.Given as goal

abbrev pub invariant-loop-slots : goal.invariant-loop-slots
invariant-loop-slots g l = record {
  kept : (p : ℕ) → p < vec_len l.initial.slots → slice_get l.slots.items p ≡ slice_get l.initial.slots.items p;
  adds : AddsFree l.initial.slots.items l.slots.items;
  next : (p : ℕ) → vec_len l.initial.slots ≤ p → p < vec_len l.slots → slice_get l.slots.items p ≡ Some (Free (p + 1));
  above : vec_len l.initial.slots ≤ vec_len l.slots;
  fits : vec_len l.slots < l.to;
  capacity : vec_capacity l.slots ≡ vec_capacity l.initial.slots;
  room : l.to ≤ vec_capacity l.slots;
}

abbrev pub decreases-loop-slots : goal.decreases-loop-slots
decreases-loop-slots g l = l.to - vec_len l.slots

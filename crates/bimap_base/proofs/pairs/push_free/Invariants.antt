use Rattle.std.proofs.Common.{ℕ, ◌-◌, ◌≤◌, vec_len, vec_capacity}
use Rattle.bimap_base.specs.FreeSlots.{IsSound, IsGrown}
use Rattle.bimap_base.proofs.pairs.push_free.Given as goal

abbrev pub invariant-loop-slots : goal.invariant-loop-slots
invariant-loop-slots g l = record {
  grown : (len next : ℕ) → IsSound l.initial.slots.items len next → IsGrown l.initial.slots.items l.slots.items len next;
  fits : vec_len l.slots ≤ l.to;
  room : l.to ≤ vec_capacity l.slots;
}

abbrev pub decreases-loop-slots : goal.decreases-loop-slots
decreases-loop-slots g l = l.to - vec_len l.slots

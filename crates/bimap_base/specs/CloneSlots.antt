-- A slot of a clone of a store. No public clause cites this module.
use Rattle.std.specs.Prelude.{◌≡◌}
use Rattle.bimap_base.specs.declared.pairs.Slot.{Slot}
use Rattle.bimap_base.specs.declared.pairs.Slot.TheVariants.{Free, Held}

module _ {L R : Type 0} (is_clone_left : L → L → Type 0) (is_clone_right : R → R → Type 0) where
  -- The second slot has the clones of the values of the first. Or both are free and store the same next place.
  abbrev pub IsSlotClone : Slot L R → Slot L R → Type 0
  IsSlotClone (Free next) (Free other) = other ≡ next
  IsSlotClone (Free next) (Held l r) = ⊥
  IsSlotClone (Held l r) (Free next) = ⊥
  IsSlotClone (Held l r) (Held m s) = is_clone_left l m × is_clone_right r s

-- A slot whose pair has its sides exchanged. No public clause cites this module.
use Rattle.bimap_base.specs.declared.pairs.Slot.{Slot}
use Rattle.bimap_base.specs.declared.pairs.Slot.TheVariants.{Free, Held}

module _ {L R : Type 0} where
  -- The slot with the sides of its pair exchanged. A free slot stores the same next place.
  abbrev pub inverse_slot : Slot L R → Slot R L
  inverse_slot (Free next) = Free next
  inverse_slot (Held l r) = Held r l

-- How `Pairs` uses its slots. No public clause cites this module.
use Rattle.std.specs.Prelude.{◌≡◌, ℕ, zero, suc, ◌+◌, ◌<◌, ◌≤◌, List, map, length, Option, Some, None, is_some, count_by, slice_get, get_or}
use Rattle.bimap_base.specs.declared.pairs.Slot.{Slot}
use Rattle.bimap_base.specs.declared.pairs.Slot.TheVariants.{Free, Held}

module _ {L R : Type 0} where
  -- The pair of a slot, if it has one.
  abbrev pub pair_of : Slot L R → Option (L × R)
  pair_of (Free _) = None
  pair_of (Held l r) = Some (l, r)

  -- From the slot `first` on, this many free slots are linked. Each stores the next one, and the last stores the number of slots.
  abbrev pub IsFreeList : List (Slot L R) → ℕ → ℕ → Type 0
  IsFreeList slots zero first = first ≡ length slots
  IsFreeList slots (suc count) first = (next : ℕ) × (slice_get slots first ≡ Some (Free next)) × IsFreeList slots count next

  -- `len` is the number of pairs. The linked slots from `next` on are all of the free slots.
  pub record IsSound (slots : List (Slot L R)) (len next : ℕ) : Type 0 where
    pub counted : len ≡ count_by is_some (map pair_of slots)
    pub free : ℕ
    pub total : len + free ≡ length slots
    pub linked : IsFreeList slots free next

  -- The slots from `from` on and below `to` are free. Each stores the next one, and the last stores `after`.
  pub record IsRun (slots : List (Slot L R)) (from to after : ℕ) : Type 0 where
    pub next : (p : ℕ) → from ≤ p → p + 1 < to → slice_get slots p ≡ Some (Free (p + 1))
    pub last : (p : ℕ) → p + 1 ≡ to → slice_get slots p ≡ Some (Free after)

  -- The slots that were added at the end have no pair. The others have the pairs that they had.
  pub record AddsFree (first slots : List (Slot L R)) : Type 0 where
    pub kept : (place : ℕ) → get_or (map pair_of slots) place None ≡ get_or (map pair_of first) place None
    pub count : count_by is_some (map pair_of slots) ≡ count_by is_some (map pair_of first)

  -- The slots that were added at the end are free, and are among the linked ones.
  pub record IsGrown (first : List (Slot L R)) (slots : List (Slot L R)) (len next : ℕ) : Type 0 where
    pub sound : IsSound slots len next
    pub adds : AddsFree first slots

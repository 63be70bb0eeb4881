-- The slots and the pairs of a clone of a store.
use Rattle.std.proofs.Common.{◌≡◌, ℕ, zero, suc, List, [], ◌∷◌, length, map, Some, refl, sym, ap, ◌∙◌}
use Rattle.std.specs.Prelude.{slice_get}
use Rattle.std.specs.List.{AllZip}
use Rattle.std.proofs.lemmas.List.Elements.{length_all_zip}
use Rattle.bimap_base.specs.declared.pairs.Slot.{Slot}
use Rattle.bimap_base.specs.declared.pairs.Slot.TheVariants.{Free, Held}
use Rattle.bimap_base.specs.Clones.{AreCloned}
use Rattle.bimap_base.specs.CloneSlots.{IsSlotClone}
use Rattle.bimap_base.specs.FreeSlots.{pair_of, IsFreeList, IsSound}
use Rattle.bimap_base.specs.Places.{pairs_in}
use Rattle.bimap_base.proofs.Compaction.{counted_in}

module _ {L R : Type 0} (is_clone_left : L → L → Type 0) (is_clone_right : R → R → Type 0) where
  abbrev AreClones : List (Slot L R) → List (Slot L R) → Type 0
  AreClones slots copy = AllZip (IsSlotClone is_clone_left is_clone_right) slots copy

  -- The pair of a cloned slot is the clone of its pair.
  pub pairs_of_clones : (slots copy : List (Slot L R)) → AreClones slots copy → AreCloned is_clone_left is_clone_right (map pair_of slots) (map pair_of copy)
  pairs_of_clones [] [] zip = tt
  pairs_of_clones [] (y ∷ copy) zip = absurd zip
  pairs_of_clones (x ∷ slots) [] zip = absurd zip
  pairs_of_clones (Free next ∷ slots) (Free other ∷ copy) zip = (tt, pairs_of_clones slots copy zip.1)
  pairs_of_clones (Free next ∷ slots) (Held l r ∷ copy) zip = absurd zip.0
  pairs_of_clones (Held l r ∷ slots) (Free next ∷ copy) zip = absurd zip.0
  pairs_of_clones (Held l r ∷ slots) (Held m s ∷ copy) zip = (zip.0, pairs_of_clones slots copy zip.1)

  -- There are as many clones as pairs.
  pub long_clones : (slots copy : List (Slot L R)) → AreClones slots copy → length (pairs_in (map pair_of slots)) ≡ length (pairs_in (map pair_of copy))
  long_clones [] [] zip = refl
  long_clones [] (y ∷ copy) zip = absurd zip
  long_clones (x ∷ slots) [] zip = absurd zip
  long_clones (Free next ∷ slots) (Free other ∷ copy) zip = long_clones slots copy zip.1
  long_clones (Free next ∷ slots) (Held l r ∷ copy) zip = absurd zip.0
  long_clones (Held l r ∷ slots) (Free next ∷ copy) zip = absurd zip.0
  long_clones (Held l r ∷ slots) (Held m s ∷ copy) zip = ap suc (long_clones slots copy zip.1)

  -- A free slot stores the same next place.
  free_clone : (slots copy : List (Slot L R)) → AreClones slots copy → (k next : ℕ) → slice_get slots k ≡ Some (Free next) → slice_get copy k ≡ Some (Free next)
  free_clone [] [] zip k next is = is
  free_clone [] (y ∷ copy) zip k next is = absurd zip
  free_clone (x ∷ slots) [] zip k next is = absurd zip
  free_clone (Free n ∷ slots) (Free m ∷ copy) zip zero next is = ap (λ z. Some (Free z)) zip.0 ∙ is
  free_clone (Free n ∷ slots) (Held l r ∷ copy) zip zero next is = absurd zip.0
  free_clone (Held l r ∷ slots) (y ∷ copy) zip zero next is = absurd (cc)
  free_clone (x ∷ slots) (y ∷ copy) zip (suc k) next is = free_clone slots copy zip.1 k next is

  -- The list of free slots has the same places.
  linked_clones : (slots copy : List (Slot L R)) → AreClones slots copy → (free first : ℕ) → IsFreeList slots free first → IsFreeList copy free first
  linked_clones slots copy zip zero first linked = linked ∙ length_all_zip (IsSlotClone is_clone_left is_clone_right) slots copy zip
  linked_clones slots copy zip (suc free) first linked =
      (linked.0, free_clone slots copy zip first linked.0 linked.1, linked_clones slots copy zip free linked.0 linked.2)

  pub IsSound-clones : (slots copy : List (Slot L R)) → AreClones slots copy → (len next : ℕ) → IsSound slots len next → IsSound copy len next
  IsSound-clones slots copy zip len next sound = record {
    counted = sound.counted ∙ counted_in (map pair_of slots) ∙ long_clones slots copy zip ∙ sym (counted_in (map pair_of copy));
    free = sound.free;
    total = sound.total ∙ length_all_zip (IsSlotClone is_clone_left is_clone_right) slots copy zip;
    linked = linked_clones slots copy zip sound.free next sound.linked;
  }

-- A store of clones, where each clone has the place of its pair.
use Rattle.std.proofs.Common.{◌≡◌, ℕ, zero, suc, Bool, List, [], ◌∷◌, Option, Some, None, refl}
use Rattle.std.specs.List.{AllZip}
use Rattle.std.specs.Option.{option_map}
use Rattle.bimap_any.specs.Copies.{AreClonesEqual}
use Rattle.bimap_base.specs.Clones.{IsPairClone, IsPlaceClone, AreCloned}
use Rattle.bimap_base.specs.PairsAt.{pairs_at}
use Rattle.bimap_base.specs.Places.{pairs_in}
use Rattle.bimap_base.specs.Slots.{pair_at, left_at, right_at}
use Rattle.bimap_base.proofs.Walk.{held_at}
use Rattle.bimap_index.specs.Listed.{IsAlike}

module _ {L R : Type 0} (is_clone_left : L → L → Type 0) (is_clone_right : R → R → Type 0) where
  abbrev IsClone : L × R → L × R → Type 0
  IsClone = IsPairClone is_clone_left is_clone_right

  abbrev IsClonePlace : Option (L × R) → Option (L × R) → Type 0
  IsClonePlace = IsPlaceClone is_clone_left is_clone_right

  abbrev AreClones : List (Option (L × R)) → List (Option (L × R)) → Type 0
  AreClones = AreCloned is_clone_left is_clone_right

  cloned_at : (slots copy : List (Option (L × R))) → AreClones slots copy → (place : ℕ) → IsClonePlace (pair_at slots place) (pair_at copy place)
  cloned_at [] [] zip place = tt
  cloned_at [] (y ∷ copy) zip place = absurd zip
  cloned_at (x ∷ slots) [] zip place = absurd zip
  cloned_at (x ∷ slots) (y ∷ copy) zip zero = zip.0
  cloned_at (x ∷ slots) (y ∷ copy) zip (suc place) = cloned_at slots copy zip.1 place

  -- The pairs of the store are cloned in the order of their places.
  pub pairs_cloned : (slots copy : List (Option (L × R))) → AreClones slots copy → AllZip IsClone (pairs_in slots) (pairs_in copy)
  pairs_cloned [] [] zip = tt
  pairs_cloned [] (y ∷ copy) zip = absurd zip
  pairs_cloned (x ∷ slots) [] zip = absurd zip
  pairs_cloned (None ∷ slots) (None ∷ copy) zip = pairs_cloned slots copy zip.1
  pairs_cloned (None ∷ slots) (Some q ∷ copy) zip = absurd zip.0
  pairs_cloned (Some p ∷ slots) (None ∷ copy) zip = absurd zip.0
  pairs_cloned (Some p ∷ slots) (Some q ∷ copy) zip = (zip.0, pairs_cloned slots copy zip.1)

  module _ (slots copy : List (Option (L × R))) (zip : AreClones slots copy) where
    -- The clones of the pairs at these places are at the same places.
    pub pairs_at_cloned : (places : List ℕ) → AllZip IsClone (pairs_at slots places) (pairs_at copy places)
    pairs_at_cloned [] = tt
    pairs_at_cloned (place ∷ places) = by (pair_at slots place) (pair_at copy place) refl refl (cloned_at slots copy zip place) (pairs_at_cloned places)
      where
        by : (o p : Option (L × R)) → pair_at slots place ≡ o → pair_at copy place ≡ p → IsClonePlace o p → AllZip IsClone (pairs_at slots places) (pairs_at copy places) → AllZip IsClone (pairs_at slots (place ∷ places)) (pairs_at copy (place ∷ places))
        by None None e f clone rest = rw (e, f) rest
        by None (Some q) e f clone rest = absurd clone
        by (Some p) None e f clone rest = absurd clone
        by (Some p) (Some q) e f clone rest = rw (e, f) (clone, rest)

    module _ (same_left : L → L → Bool) (same_right : R → R → Bool) (equal : AreClonesEqual is_clone_left is_clone_right same_left same_right (pairs_in slots)) where
      -- Both stores have equal keys at each place.
      pub lefts_alike : (place : ℕ) → IsAlike same_left (left_at slots place) (left_at copy place)
      lefts_alike place = by (pair_at slots place) (pair_at copy place) refl (cloned_at slots copy zip place)
        where
          by : (o p : Option (L × R)) → pair_at slots place ≡ o → IsClonePlace o p → IsAlike same_left (option_map (λ x. x.0) o) (option_map (λ x. x.0) p)
          by None None e clone = tt
          by None (Some q) e clone = absurd clone
          by (Some p) None e clone = absurd clone
          by (Some p) (Some q) e clone = equal.left p (held_at slots place p e) q.0 clone.0

      pub rights_alike : (place : ℕ) → IsAlike same_right (right_at slots place) (right_at copy place)
      rights_alike place = by (pair_at slots place) (pair_at copy place) refl (cloned_at slots copy zip place)
        where
          by : (o p : Option (L × R)) → pair_at slots place ≡ o → IsClonePlace o p → IsAlike same_right (option_map (λ x. x.1) o) (option_map (λ x. x.1) p)
          by None None e clone = tt
          by None (Some q) e clone = absurd clone
          by (Some p) None e clone = absurd clone
          by (Some p) (Some q) e clone = equal.right p (held_at slots place p e) q.1 clone.1

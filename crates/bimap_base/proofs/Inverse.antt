-- Slots and pairs with their sides exchanged.
use Rattle.std.proofs.Common.{◌≡◌, ◌≤◌, ℕ, zero, suc, Bool, List, [], ◌∷◌, length, map, None, Some, refl, sym, ap, subst, ◌∙◌, inl, inr, Contains}
use Rattle.std.specs.Option.{option_map}
use Rattle.std.proofs.Math.Bool.{or_comm}
use Rattle.std.proofs.lemmas.List.{length-map}
use Rattle.std.proofs.lemmas.Option.{slice_get-map}
use Rattle.bimap_base.specs.declared.pairs.Slot.{Slot}
use Rattle.bimap_base.specs.declared.pairs.Slot.TheVariants.{Free, Held}
use Rattle.bimap_base.specs.FreeSlots.{pair_of, IsFreeList, IsSound}
use Rattle.bimap_base.specs.Holding.{Holding}
use Rattle.bimap_base.specs.Inverse.{inverse_pair}
use Rattle.bimap_base.specs.InverseSlots.{inverse_slot}
use Rattle.bimap_base.specs.Places.{pairs_in}
use Rattle.bimap_base.specs.Sets.{IsApart}
use Rattle.bimap_base.proofs.Apart.{apart_head, apart_tail, apart_none, apart_more}
use Rattle.bimap_base.proofs.Compaction.{counted_in}
use Rattle.bimap_base.proofs.Members.{head_in, more_in, cases_in, none_in}

module _ {L R : Type 0} where
  -- The pair of an exchanged slot is the old pair with its sides exchanged.
  pub pairs_of_inverse : (slots : List (Slot L R)) → map pair_of (map inverse_slot slots) ≡ map (option_map inverse_pair) (map pair_of slots)
  pairs_of_inverse [] = refl
  pairs_of_inverse (Free next ∷ slots) = ap (λ z. None ∷ z) (pairs_of_inverse slots)
  pairs_of_inverse (Held l r ∷ slots) = ap (λ z. Some (r, l) ∷ z) (pairs_of_inverse slots)

  long_inverse : (slots : List (Slot L R)) → length (pairs_in (map pair_of (map inverse_slot slots))) ≡ length (pairs_in (map pair_of slots))
  long_inverse [] = refl
  long_inverse (Free next ∷ slots) = long_inverse slots
  long_inverse (Held l r ∷ slots) = ap suc (long_inverse slots)

  -- The list of free slots has the same places.
  linked_inverse : (slots : List (Slot L R)) (free first : ℕ) → IsFreeList slots free first → IsFreeList (map inverse_slot slots) free first
  linked_inverse slots zero first linked = linked ∙ sym (length-map slots inverse_slot)
  linked_inverse slots (suc free) first linked =
      (linked.0, slice_get-map inverse_slot slots first ∙ ap (option_map inverse_slot) linked.1, linked_inverse slots free linked.0 linked.2)

  pub IsSound-inverse : (slots : List (Slot L R)) (len next : ℕ) → IsSound slots len next → IsSound (map inverse_slot slots) len next
  IsSound-inverse slots len next sound = record {
    counted = sound.counted ∙ counted_in (map pair_of slots) ∙ sym (counted_in (map pair_of (map inverse_slot slots)) ∙ long_inverse slots);
    free = sound.free;
    total = sound.total ∙ sym (length-map slots inverse_slot);
    linked = linked_inverse slots sound.free next sound.linked;
  }

  -- Each pair of the exchanged ones is an old pair with its sides exchanged.
  pub inverse_in : (pairs : List (L × R)) (q : R × L) → Contains (map inverse_pair pairs) q → Contains pairs (inverse_pair q)
  inverse_in [] q c = none_in q c
  inverse_in (p ∷ pairs) q c =
      elim (cases_in (inverse_pair p) (map inverse_pair pairs) q c) [
        | inl e ↦ subst (λ z. Contains (p ∷ pairs) z) (ap inverse_pair e) (head_in p pairs)
        | inr d ↦ more_in p pairs (inverse_pair q) (inverse_in pairs q d)
      ]

  pub in_inverse : (pairs : List (L × R)) (q : R × L) → Contains pairs (inverse_pair q) → Contains (map inverse_pair pairs) q
  in_inverse [] q c = none_in (inverse_pair q) c
  in_inverse (p ∷ pairs) q c =
      elim (cases_in p pairs (inverse_pair q) c) [
        | inl e ↦ subst (λ z. Contains (map inverse_pair (p ∷ pairs)) z) (ap inverse_pair e) (head_in (inverse_pair p) (map inverse_pair pairs))
        | inr d ↦ more_in (inverse_pair p) (map inverse_pair pairs) q (in_inverse pairs q d)
      ]

  -- Pairs that share no value share none after their sides are exchanged.
  pub apart_inverse : (same_left : L → L → Bool) (same_right : R → R → Bool) (pairs : List (L × R)) → IsApart same_left same_right pairs → IsApart same_right same_left (map inverse_pair pairs)
  apart_inverse same_left same_right [] apart = apart_none same_right same_left
  apart_inverse same_left same_right (p ∷ pairs) apart =
      apart_more same_right same_left (inverse_pair p) (map inverse_pair pairs)
      (λ q there. or_comm (same_right p.1 q.0) (same_left p.0 q.1) ∙ apart_head same_left same_right p pairs apart (inverse_pair q) (inverse_in pairs q there))
      (apart_inverse same_left same_right pairs (apart_tail same_left same_right p pairs apart))

  -- The pairs still fit into the capacity.
  pub fits_inverse : (held : Holding L R) → length held.pairs ≤ held.room → length (map inverse_pair held.pairs) ≤ held.room
  fits_inverse held fits = subst (λ n. n ≤ held.room) (sym (length-map held.pairs inverse_pair)) fits

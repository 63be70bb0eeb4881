-- What each branch of `get_by_left_or_insert` returns and leaves.
use Rattle.std.proofs.Common.{◌≡◌, ℕ, ◌<◌, true, false, Bool, List, length, Option, Some, None, IsSome, refl, sym, ap, subst, ◌∙◌, inl, inr, arith, true≢false}
use Rattle.std.specs.Prelude.{Contains, Ok, Err, slice_set}
use Rattle.std.specs.Option.{is_some}
use Rattle.std.specs.Cmp.{IsEquivalence}
use Rattle.bimap_base.specs.Sets.{HasLeft, LacksLeft}
use Rattle.bimap_base.specs.Holding.{IsRoomAfter, IsInterning}
use Rattle.bimap_base.specs.Slots.{pair_at, pair_count}
use Rattle.bimap_base.specs.Places.{pairs_in, IsFoundAt}
use Rattle.bimap_base.specs.declared.policy.OnHeld.TheVariants.{Refuse}
use Rattle.bimap_base.specs.declared.refusal.NotInserted.TheVariants.{Occupied, Memory}
use Rattle.bimap_base.proofs.Room.{room_stays}
use Rattle.bimap_core.specs.Store.{holding_of}
use Rattle.bimap_core.proofs.Places.{held_at, length-pairs_in, key_lacking}
use Rattle.bimap_core.proofs.Inserted.{right_held, put_new}
use Rattle.bimap_core.proofs.Inserting.{right_of_two, none_shares}

pub nothing : {A : Type 0} (o : Option A) → is_some o ≡ false → o ≡ None
nothing None e = refl
nothing (Some x) e = absurd (true≢false e)

module _ {L R : Type 0} (same_left : L → L → Bool) (same_right : R → R → Bool) (slots : List (Option (L × R))) (l : L) (r : R) where
  -- A left cannot be both contained and missing.
  pub not_both : {P : Type 0} → HasLeft same_left (Contains (pairs_in slots)) l → LacksLeft same_left (Contains (pairs_in slots)) l → P
  not_both has lacks = absurd (true≢false (sym has.2 ∙ lacks has.0 has.1))

  -- A pair with an equal left is contained.
  pub found_held : (place : ℕ) (p : L × R) → pair_at slots place ≡ Some p → same_left p.0 l ≡ true → IsInterning same_left same_right (holding_of slots) (l, r) (Ok p.1) (holding_of slots)
  found_held place p was equal =
      let has : HasLeft same_left (Contains (pairs_in slots)) l = (p, held_at slots place p was, equal) in
      record {
        answer = (p.0, held_at slots place p was, equal);
        held = λ _. (refl, refl);
        given = λ lacks. not_both has lacks;
        put = λ lacks. not_both has lacks;
        count = λ lacks. not_both has lacks;
        kept = λ q m. m;
        refused = tt;
        unchanged = tt;
        room = room_stays _ _ _ refl;
      }

  module _ (by_left by_right : Option ℕ) (at_left : IsFoundAt (λ p. p.0) same_left slots l by_left) (at_right : IsFoundAt (λ p. p.1) same_right slots r by_right) (no_left : by_left ≡ None) where
    lacking : LacksLeft same_left (Contains (pairs_in slots)) l
    lacking = key_lacking (λ p. p.0) same_left slots l by_left at_left no_left

    -- The left is missing, so nothing has to be shown for the case that it is contained.
    pub lacks_held : {P : Type 0} → HasLeft same_left (Contains (pairs_in slots)) l → P
    lacks_held has = not_both has lacking

    -- Another pair has the right.
    pub refused_occupied : IsSome by_right → IsInterning same_left same_right (holding_of slots) (l, r) (Err (Occupied l r)) (holding_of slots)
    refused_occupied some =
        let h = right_held same_left same_right slots r by_right at_right some in
        record {
          answer = tt;
          held = lacks_held;
          given = λ _. tt;
          put = λ _. tt;
          count = λ _. tt;
          kept = λ q m. m;
          refused = (refl, (h.0, h.1, right_of_two _ _ h.2));
          unchanged = refl;
          room = room_stays _ _ _ refl;
        }

    -- No pair shares a value with the new one, and the call ran out of memory.
    pub refused_for_memory : (slots' : List (Option (L × R))) → by_right ≡ None → pair_count slots ≡ length slots → slots' ≡ slots → IsInterning same_left same_right (holding_of slots) (l, r) (Err (Memory l r)) (holding_of slots')
    refused_for_memory slots' no_right full same = record {
      answer = tt;
      held = lacks_held;
      given = λ _. tt;
      put = λ _. tt;
      count = λ _. tt;
      kept = λ q m. subst (λ z. Contains (pairs_in z) q) (sym same) m;
      refused = (refl, none_shares same_left same_right slots l r by_left by_right at_left at_right no_left no_right, length-pairs_in slots ∙ full);
      unchanged = ap holding_of same;
      room = room_stays _ _ _ (ap length same);
    }

    -- No pair shares a value with the new one, and it was inserted.
    pub interned_new : (equal_left : IsEquivalence same_left) (equal_right : IsEquivalence same_right) (grown slots' : List (Option (L × R))) (place : ℕ) → by_right ≡ None → ((q : ℕ) → pair_at grown q ≡ pair_at slots q) → IsRoomAfter (holding_of slots) ⊥ (holding_of grown)
        → place < length grown → pair_at grown place ≡ None → slots' ≡ slice_set grown place (Some (l, r)) → IsInterning same_left same_right (holding_of slots) (l, r) (Ok r) (holding_of slots')
    interned_new equal_left equal_right grown slots' place no_right kept room inside free now =
        let i = put_new same_left same_right equal_left equal_right slots l r (record { left = Refuse; right = Refuse }) by_left by_right at_left at_right (λ _. no_left) (λ _. no_right) grown slots' place no_left no_right kept room inside free now in
        record {
          answer = (l, (i.put (l, r)).1 (inl refl), equal_left.refl l);
          held = lacks_held;
          given = λ _. refl;
          put = λ _. i.put;
          count = λ _. omega (arith, i.count);
          kept = λ q m. (i.put q).1 (inr (m, i.answer q m));
          refused = tt;
          unchanged = tt;
          room = i.room;
        }

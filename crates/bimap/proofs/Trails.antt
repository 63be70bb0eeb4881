-- A trail whose last insertion is undone.
use Rattle.std.proofs.Common.{◌≡◌, ◌⊎◌, inl, inr, ℕ, suc, ◌+◌, ◌<◌, ◌≤◌, Bool, List, [], ◌∷◌, ◌++◌, length, refl, ◌∙◌, arith}
use Rattle.std.specs.Prelude.{Contains}
use Rattle.std.specs.Cmp.{IsEquivalence}
use Rattle.std.proofs.lemmas.Bool.{cases_lt}
use Rattle.bimap_base.specs.Sets.{IsApart, IsSameSet, IsWithPut}
use Rattle.bimap_base.specs.Answer.{IsAnswer, IsBoth, named_count}
use Rattle.bimap_base.specs.Holding.{Holding, IsRoomAfter}
use Rattle.bimap_base.specs.Undoing.{IsUndoable, IsUndone, IsInserting, IsTrail}
use Rattle.bimap_base.specs.declared.overwritten.Overwritten.{Overwritten}
use Rattle.bimap_base.specs.declared.overwritten.Overwritten.TheVariants.{Neither, Left, Right, Pair, Both}
use Rattle.bimap_any.proofs.SetsAlike.{IsAnswer-same, turned}
use Rattle.bimap_any.proofs.Undoing.{inserting_undoable, undone_same, inserting_shorter}
use Rattle.bimap.specs.Trail.{IsWithin, Leads, LeadsWithin, IsRoomAfterUndoing}

module _ {L R : Type 0} (same_left : L → L → Bool) (same_right : R → R → Bool) (lefts : IsEquivalence same_left) (rights : IsEquivalence same_right) where
  inserting_along : (A B C : List (L × R)) (left : L) (answer : Overwritten L R) → IsInserting same_left same_right A left answer B → IsSameSet (Contains B) (Contains C) → IsInserting same_left same_right A left answer C
  inserting_along A B C left answer i s = record { pair = i.pair; by_left = i.by_left; is_answer = i.is_answer; put = λ q. (λ m. (i.put q).0 ((s q).1 m), λ m. (s q).0 ((i.put q).1 m)) }

  -- A trail through sets of no more than `room` pairs.
  pub record Trail (room : ℕ) (A : List (L × R)) (entries : List (L × Overwritten L R)) (S : List (L × R)) : Type 0 where
    pub trail : IsTrail same_left same_right A entries S
    pub within : IsWithin same_left same_right room A entries S trail

  -- The last insertion of a trail, and the trail before it.
  pub record Popped (room : ℕ) (A : List (L × R)) (entries : List (L × Overwritten L R)) (left : L) (answer : Overwritten L R) (S : List (L × R)) : Type 0 where
    pub before : List (L × R)
    pub apart : IsApart same_left same_right before
    pub fits : length before ≤ room
    pub led : Trail room A entries before
    pub last : IsInserting same_left same_right before left answer S

  trail_along : (room : ℕ) (A : List (L × R)) (entries : List (L × Overwritten L R)) (B C : List (L × R)) → Trail room A entries B → IsSameSet (Contains B) (Contains C) → Trail room A entries C
  trail_along room A [] B C h s = record { trail = λ q. (λ m. (s q).0 ((h.trail q).0 m), λ m. (h.trail q).1 ((s q).1 m)); within = tt }
  trail_along room A ((left, answer) ∷ entries) B C h s =
      let w = trail_along room h.trail.0 entries B C (record { trail = h.trail.3; within = h.within.1 }) s in
      record { trail = (h.trail.0, h.trail.1, h.trail.2, w.trail); within = (h.within.0, w.within) }

  pub trail_pop : (room : ℕ) (A : List (L × R)) (entries : List (L × Overwritten L R)) (left : L) (answer : Overwritten L R) (S : List (L × R)) → IsApart same_left same_right A → Trail room A (entries ++ (left, answer) ∷ []) S → Popped room A entries left answer S
  trail_pop room A [] left answer S a h = record {
    before = A;
    apart = a;
    fits = h.within.0;
    led = record { trail = λ q. (λ m. m, λ m. m); within = tt };
    last = inserting_along A h.trail.0 S left answer h.trail.2 h.trail.3;
  }
  trail_pop room A ((l, o) ∷ entries) left answer S a h =
      let w = trail_pop room h.trail.0 entries left answer S h.trail.1 (record { trail = h.trail.3; within = h.within.1 }) in
      record {
        before = w.before;
        apart = w.apart;
        fits = w.fits;
        led = record { trail = (h.trail.0, h.trail.1, h.trail.2, w.led.trail); within = (h.within.0, w.led.within) };
        last = w.last;
      }

  inserting_from : (A S T : List (L × R)) (left : L) (answer : Overwritten L R) → IsSameSet (Contains A) (Contains S) → IsInserting same_left same_right S left answer T → IsInserting same_left same_right A left answer T
  inserting_from A S T left answer s i = record {
    pair = i.pair;
    by_left = i.by_left;
    is_answer = IsAnswer-same (Contains S) (Contains A) (turned (Contains A) (Contains S) s) same_left same_right i.pair answer i.is_answer;
    put = λ q. (
      λ m. elim ((i.put q).0 m) [ inl e ↦ inl e | inr w ↦ inr ((s q).1 w.0, w.1) ],
      λ m. (i.put q).1 (elim m [ inl e ↦ inl e | inr w ↦ inr ((s q).0 w.0, w.1) ]),
    );
  }

  trail_push : (A : List (L × R)) (entries : List (L × Overwritten L R)) (S T : List (L × R)) (left : L) (answer : Overwritten L R) → IsTrail same_left same_right A entries S → IsApart same_left same_right T → IsInserting same_left same_right S left answer T → IsTrail same_left same_right A (entries ++ (left, answer) ∷ []) T
  trail_push A [] S T left answer h a i = (T, a, inserting_from A S T left answer h i, λ q. (λ m. m, λ m. m))
  trail_push A ((l, o) ∷ entries) S T left answer h a i = (h.0, h.1, h.2, trail_push h.0 entries S T left answer h.3 a i)

  -- Nothing was inserted.
  pub leads_none : (S : List (L × R)) → IsApart same_left same_right S → Leads same_left same_right S [] S
  leads_none S a = record { apart = a; trail = λ q. (λ m. m, λ m. m) }

  -- One more insertion.
  pub leads_push : (first : List (L × R)) (entries : List (L × Overwritten L R)) (S T : List (L × R)) (left : L) (right : R) (answer : Overwritten L R) → Leads same_left same_right first entries S → IsApart same_left same_right T → IsAnswer same_left same_right (Contains S) (left, right) answer → IsWithPut same_left same_right (Contains S) (left, right) (Contains T) → Leads same_left same_right first (entries ++ (left, answer) ∷ []) T
  leads_push first entries S T left right answer h a is put =
      record { apart = h.apart; trail = trail_push first entries S T left answer h.trail a (record { pair = (left, right); by_left = lefts.refl left; is_answer = is; put = put }) }

  within_more : (room more : ℕ) (A : List (L × R)) (entries : List (L × Overwritten L R)) (S : List (L × R)) (trail : IsTrail same_left same_right A entries S) → room ≤ more → IsWithin same_left same_right room A entries S trail → IsWithin same_left same_right more A entries S trail
  within_more room more A [] S trail h w = tt
  within_more room more A ((l, o) ∷ entries) S trail h w = (omega (arith, h, w.0), within_more room more trail.0 entries S trail.3 h w.1)

  -- The sets of a trail have a greatest length.
  some_room : (A : List (L × R)) (entries : List (L × Overwritten L R)) (S : List (L × R)) (trail : IsTrail same_left same_right A entries S) → (room : ℕ) × IsWithin same_left same_right room A entries S trail
  some_room A [] S trail = (0, tt)
  some_room A ((l, o) ∷ entries) S trail =
      let w = some_room trail.0 entries S trail.3 in
      (w.0 + length A, (omega arith, within_more w.0 (w.0 + length A) trail.0 entries S trail.3 (omega arith) w.1))

  pub roomy : (A : List (L × R)) (entries : List (L × Overwritten L R)) (S : List (L × R)) → IsTrail same_left same_right A entries S → (room : ℕ) × Trail room A entries S
  roomy A entries S trail = let w = some_room A entries S trail in (w.0, record { trail = trail; within = w.1 })

  module _ (entries : List (L × Overwritten L R)) (left : L) (answer : Overwritten L R) (S : List (L × R)) (first : List (L × R)) where
    -- The last insertion may be undone.
    pub leads_undoable : Leads same_left same_right first (entries ++ (left, answer) ∷ []) S → IsUndoable same_left same_right (Contains S) left answer
    leads_undoable h =
        let t = roomy first (entries ++ (left, answer) ∷ []) S h.trail in
        let w = trail_pop t.0 first entries left answer S h.apart t.1 in
        inserting_undoable same_left same_right lefts rights w.before S left answer w.apart w.last

    pop_led : (room : ℕ) (T : List (L × R)) → IsApart same_left same_right first → Trail room first (entries ++ (left, answer) ∷ []) S → IsUndone same_left same_right (Contains S) left answer (Contains T) → Trail room first entries T
    pop_led room T a t u =
        let w = trail_pop room first entries left answer S a t in
        trail_along room first entries w.before T w.led (undone_same same_left same_right lefts rights w.before S left answer w.apart w.last (Contains T) u)

    -- After the last insertion is undone, the other insertions lead to the contained pairs.
    pub leads_pop : (T : List (L × R)) → Leads same_left same_right first (entries ++ (left, answer) ∷ []) S → IsUndone same_left same_right (Contains S) left answer (Contains T) → Leads same_left same_right first entries T
    leads_pop T h u =
        let t = roomy first (entries ++ (left, answer) ∷ []) S h.trail in
        record { apart = h.apart; trail = (pop_led t.0 T h.apart t.1 u).trail }

    pub leads_within_pop : (room : ℕ) (T : List (L × R)) → LeadsWithin same_left same_right room first (entries ++ (left, answer) ∷ []) S → IsUndone same_left same_right (Contains S) left answer (Contains T) → LeadsWithin same_left same_right room first entries T
    leads_within_pop room T h u =
        let w = pop_led room T h.apart (record { trail = h.trail; within = h.within }) u in
        record { apart = h.apart; trail = w.trail; within = w.within }

    -- If the last insertion overwrote two pairs, there are fewer pairs than places.
    pub leads_within_spare : (room : ℕ) → LeadsWithin same_left same_right room first (entries ++ (left, answer) ∷ []) S → IsApart same_left same_right S → IsBoth answer → suc (length S) ≤ room
    leads_within_spare room h held both =
        let w = trail_pop room first entries left answer S h.apart (record { trail = h.trail; within = h.within }) in
        let short = inserting_shorter same_left same_right lefts rights w.before S left answer w.apart held w.last both in
        omega (arith, short, w.fits)

pub empty_from_length : {X : Type 0} (xs : List X) → length xs ≡ 0 → xs ≡ []
empty_from_length [] e = refl
empty_from_length (x ∷ xs) e = absurd (omega arith)

pub both_or_not : {L R : Type 0} (answer : Overwritten L R) → IsBoth answer ⊎ (IsBoth answer → ⊥)
both_or_not (Both p q) = inl tt
both_or_not Neither = inr (λ b. b)
both_or_not (Left l r) = inr (λ b. b)
both_or_not (Right l r) = inr (λ b. b)
both_or_not (Pair l r) = inr (λ b. b)

-- An insertion overwrites at most two pairs.
pub two_at_most : {L R : Type 0} (answer : Overwritten L R) → named_count answer ≤ 2
two_at_most (Both p q) = omega arith
two_at_most Neither = omega arith
two_at_most (Left l r) = omega arith
two_at_most (Right l r) = omega arith
two_at_most (Pair l r) = omega arith

-- The room after one more undoing, if there are no more pairs than these entries needed.
pub room_undone : {L R : Type 0} (old held new : Holding L R) (entries : List (L × Overwritten L R)) {InPlace : Type 0} → length held.pairs < length old.pairs + length entries → IsRoomAfterUndoing old entries held → IsRoomAfter held InPlace new → IsRoomAfterUndoing old entries new
room_undone old held new entries short so_far room = record {
  not_lower = omega (arith, so_far.not_lower, room.not_lower);
  at_most = elim (cases_lt (length held.pairs) held.room) [
    | inl free ↦ omega (arith, room.had_place free, so_far.at_most)
    | inr full ↦ omega (arith, room.at_most, full, short)
  ];
  had_places = λ fits.
      let was = so_far.had_places fits in
      room.had_place (omega (arith, fits, short, was)) ∙ was;
}

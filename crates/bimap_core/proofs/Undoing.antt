-- What undoing an insertion leaves, given the place of the pair that is removed.
use Rattle.std.proofs.Common.{◌≡◌, ◌≢◌, ◌↔◌, ◌⊎◌, ℕ, ◌+◌, ◌<◌, ◌≤◌, Bool, false, List, length, Option, Some, None, refl, sym, ap, subst, ◌∙◌, inl, inr, arith, true≢false}
use Rattle.std.specs.Prelude.{Contains, Ok, Err, slice_set}
use Rattle.std.specs.Cmp.{IsEquivalence}
use Rattle.std.proofs.lemmas.Bool.{cases_eq, false_from_ne_true}
use Rattle.std.proofs.lemmas.List.{get_or-set_same, get_or-set_other, length-set}
use Rattle.bimap_base.specs.Sets.{shares}
use Rattle.bimap_base.specs.Answer.{IsNamed, IsBoth, named_count}
use Rattle.bimap_base.specs.Holding.{IsRoomAfter, IsUndoing}
use Rattle.bimap_base.specs.Places.{pairs_in, IsFoundAt}
use Rattle.bimap_base.specs.Slots.{pair_at, pair_count}
use Rattle.bimap_base.specs.Undoing.{IsUndoable, IsUndone}
use Rattle.bimap_base.specs.declared.overwritten.Overwritten.{Overwritten}
use Rattle.bimap_base.specs.declared.overwritten.Overwritten.TheVariants.{Neither, Both}
use Rattle.bimap_any.proofs.Fits.{NamesOne}
use Rattle.bimap_base.proofs.Room.{room_stays, room_made}
use Rattle.bimap_core.specs.Store.{holding_of, IsAloneAt}
use Rattle.bimap_core.proofs.Places.{held_at, place_of, live_within, pairs_kept, length-pairs_in}
use Rattle.bimap_base.proofs.Apart.{shares_symm}
use Rattle.bimap_core.proofs.Counted.{count_over, count_new, count_out}
use Rattle.bimap_core.proofs.Removing.{without}

module _ {P : Type 0} (slots : List (Option P)) (place : ℕ) (inside : place < length slots) where
  cleared : pair_at (slice_set slots place None) place ≡ None
  cleared = get_or-set_same slots place None None inside

  written : (new : P) → pair_at (slice_set slots place (Some new)) place ≡ Some new
  written new = get_or-set_same slots place (Some new) None inside

  -- After a pair is put at a place, the store contains this pair and those of the other places.
  pub held_set : (new q : P) → Contains (pairs_in (slice_set slots place (Some new))) q ↔ ((q ≡ new) ⊎ Contains (pairs_in (slice_set slots place None)) q)
  held_set new q = (
    λ c. let a = place_of (slice_set slots place (Some new)) q c in
        elim (cases_eq a.0 place) [
          | inl same ↦ let i = a.1 in let j : pair_at (slice_set slots place (Some new)) a.0 ≡ Some new = ap (pair_at (slice_set slots place (Some new))) same ∙ written new in inl (cc)
          | inr away ↦ inr (held_at (slice_set slots place None) a.0 q (get_or-set_other slots place a.0 None None away ∙ sym (get_or-set_other slots place a.0 (Some new) None away) ∙ a.1))
        ],
    λ w. elim w [
      | inl e ↦ held_at (slice_set slots place (Some new)) place q (written new ∙ ap Some (sym e))
      | inr c ↦
          let a = place_of (slice_set slots place None) q c in
          let away : a.0 ≢ place = λ e. let i : pair_at (slice_set slots place None) a.0 ≡ None = ap (pair_at (slice_set slots place None)) e ∙ cleared in let j = a.1 in cc in
          held_at (slice_set slots place (Some new)) a.0 q (get_or-set_other slots place a.0 (Some new) None away ∙ sym (get_or-set_other slots place a.0 None None away) ∙ a.1)
    ],
  )

-- Freeing a free place changes nothing.
freed_same : {P : Type 0} (slots : List (Option P)) (place : ℕ) → place < length slots → pair_at slots place ≡ None → pairs_in (slice_set slots place None) ≡ pairs_in slots
freed_same slots place inside free =
    pairs_kept slots (slice_set slots place None) (λ q. elim (cases_eq q place) [
      | inl same ↦ ap (pair_at (slice_set slots place None)) same ∙ cleared slots place inside ∙ sym (ap (pair_at slots) same ∙ free)
      | inr away ↦ get_or-set_other slots place q None None away
    ])

-- Two pairs are put, one at a place and one at another free place.
-- The store then contains both, and the pairs of the other places.
pub held_both : {P : Type 0} (slots : List (Option P)) (place other : ℕ) (first second : P) → place < length slots → other < length (slice_set slots place (Some first)) → pair_at (slice_set slots place (Some first)) other ≡ None
    → (q : P) → Contains (pairs_in (slice_set (slice_set slots place (Some first)) other (Some second))) q ↔ (((q ≡ first) ⊎ (q ≡ second)) ⊎ Contains (pairs_in (slice_set slots place None)) q)
held_both slots place other first second inside within free q =
    let one = held_set slots place inside first q in
    let two = held_set (slice_set slots place (Some first)) other within second q in
    let same = freed_same (slice_set slots place (Some first)) other within free in (
      λ c. elim (two.0 c) [
        | inl e ↦ inl (inr e)
        | inr d ↦ elim (one.0 (subst (λ z. Contains z q) same d)) [ inl e ↦ inl (inl e) | inr w ↦ inr w ]
      ],
      λ m. elim m [
        | inl o ↦ elim o [
          | inl e ↦ two.1 (inr (subst (λ z. Contains z q) (sym same) (one.1 (inl e))))
          | inr e ↦ two.1 (inl e)
        ]
        | inr w ↦ two.1 (inr (subst (λ z. Contains z q) (sym same) (one.1 (inr w))))
      ],
    )

-- If each place has the same pair in both stores, then so do the stores without one place.
same_taken : {P : Type 0} (slots grown : List (Option P)) (place : ℕ) → place < length slots → length slots ≤ length grown → ((q : ℕ) → pair_at grown q ≡ pair_at slots q) → pairs_in (slice_set grown place None) ≡ pairs_in (slice_set slots place None)
same_taken slots grown place inside longer kept =
    pairs_kept (slice_set slots place None) (slice_set grown place None) (λ q. elim (cases_eq q place) [
      | inl same ↦ ap (pair_at (slice_set grown place None)) same ∙ cleared grown place (omega arith) ∙ sym (ap (pair_at (slice_set slots place None)) same ∙ cleared slots place inside)
      | inr away ↦ get_or-set_other grown place q None None away ∙ kept q ∙ sym (get_or-set_other slots place q None None away)
    ])

module _ {L R : Type 0} (same_left : L → L → Bool) (same_right : R → R → Bool) where
  -- A pair that is alone at a place stays so after the store grew.
  pub alone_grown : (slots grown : List (Option (L × R))) (place : ℕ) (pair : L × R) → ((q : ℕ) → pair_at grown q ≡ pair_at slots q) → IsAloneAt same_left same_right slots place pair → IsAloneAt same_left same_right grown place pair
  alone_grown slots grown place pair kept alone other p away i = alone other p away (sym (kept other) ∙ i)

  -- A pair is alone at a place, and another pair is put there with which it shares no value.
  -- Then it is alone at any other place too.
  pub alone_beside : (slots : List (Option (L × R))) (place other : ℕ) (was first second : L × R) → pair_at slots place ≡ Some was → shares same_left same_right first second ≡ false → IsAloneAt same_left same_right slots place second → IsAloneAt same_left same_right (slice_set slots place (Some first)) other second
  alone_beside slots place other was first second there apart alone q p away i =
      elim (cases_eq q place) [
        | inl same ↦
            let j : pair_at (slice_set slots place (Some first)) q ≡ Some first = ap (pair_at (slice_set slots place (Some first))) same ∙ written slots place (live_within slots place was there) first in
            let s : p ≡ first = cc in
            ap (λ z. shares same_left same_right z second) s ∙ apart
        | inr off ↦ alone q p off (sym (get_or-set_other slots place q (Some first) None off) ∙ i)
      ]

module _ {L R : Type 0} (same_left : L → L → Bool) (same_right : R → R → Bool) (equal_left : IsEquivalence same_left) (equal_right : IsEquivalence same_right) where
  module _ (slots : List (Option (L × R))) (left : L) (place : ℕ) (o : Option ℕ) (at : IsFoundAt (λ p. p.0) same_left slots left o) (found : o ≡ Some place) where
    there : IsFoundAt (λ p. p.0) same_left slots left (Some place)
    there = subst (IsFoundAt (λ p. p.0) same_left slots left) found at

    -- A pair of the answer is alone at the place.
    pub alone_named : (answer : Overwritten L R) → IsUndoable same_left same_right (Contains (pairs_in slots)) left answer → (q : L × R) → IsNamed answer q → IsAloneAt same_left same_right slots place q
    alone_named answer u q named other s away i =
        false_from_ne_true (shares same_left same_right s q) (λ e.
        let same : s ≡ u.pair = u.alone q s named (held_at slots other s i) (shares_symm same_left same_right equal_left equal_right q s ∙ e) in
        let off : Some place ≡ Some other → ⊥ = λ f. away (let g : place ≡ other = cc in sym g) in
        true≢false (sym (ap (λ (z : L × R). same_left z.0 left) same ∙ u.by_left) ∙ there.elsewhere other s off i)
        )

    module _ (p : L × R) (was : pair_at slots place ≡ Some p) (answer : Overwritten L R) (slots' : List (Option (L × R))) (held : (q : L × R) → Contains (pairs_in slots') q ↔ (IsNamed answer q ⊎ Contains (pairs_in (slice_set slots place None)) q)) where
      undone_by : IsUndone same_left same_right (Contains (pairs_in slots)) left answer (Contains (pairs_in slots'))
      undone_by q =
          let w = without (λ p. p.0) same_left slots left place p there was q in (
            λ c. elim ((held q).0 c) [ inl n ↦ inl n | inr d ↦ inr (w.0 d) ],
            λ m. (held q).1 (elim m [ inl n ↦ inl n | inr d ↦ inr (w.1 d) ]),
          )

      pub undoing_by : length (pairs_in slots') + 1 ≡ length (pairs_in slots) + named_count answer → IsRoomAfter (holding_of slots) (IsBoth answer → ⊥) (holding_of slots') → IsUndoing same_left same_right (holding_of slots) left answer (Ok p) (holding_of slots')
      undoing_by count room = record {
        taken = (held_at slots place p was, rw was at there.here);
        undone = undone_by;
        count = count;
        handed_back = tt;
        both = tt;
        full = tt;
        unchanged = tt;
        room = room;
      }

    -- No pair is put back.
    pub undone_neither : (p : L × R) (slots' : List (Option (L × R))) → pair_at slots place ≡ Some p → slots' ≡ slice_set slots place None → IsUndoing same_left same_right (holding_of slots) left Neither (Ok p) (holding_of slots')
    undone_neither p slots' was now =
        let long : length slots' ≡ length slots = ap length now ∙ length-set slots place None in
        undoing_by p was Neither slots' (λ q. (λ c. inr (subst (λ z. Contains (pairs_in z) q) now c), λ m. elim m [ inl n ↦ absurd n | inr d ↦ subst (λ z. Contains (pairs_in z) q) (sym now) d ])) (omega (arith, count_out slots slots' place p was now)) (room_stays _ _ _ long)

    -- One pair is put back.
    pub undone_one : (answer : Overwritten L R) (p new : L × R) (slots' : List (Option (L × R))) → NamesOne answer new → pair_at slots place ≡ Some p → slots' ≡ slice_set slots place (Some new) → IsUndoing same_left same_right (holding_of slots) left answer (Ok p) (holding_of slots')
    undone_one answer p new slots' one was now =
        let long : length slots' ≡ length slots = ap length now ∙ length-set slots place (Some new) in
        let inside = live_within slots place p was in
        undoing_by p was answer slots' (λ q.
        let h = held_set slots place inside new q in (
          λ c. elim (h.0 (subst (λ z. Contains (pairs_in z) q) now c)) [ inl e ↦ inl (subst (IsNamed answer) (sym e) one.is) | inr d ↦ inr d ],
          λ m. subst (λ z. Contains (pairs_in z) q) (sym now) (h.1 (elim m [ inl n ↦ inl (one.only q n) | inr d ↦ inr d ])),
        )) (omega (arith, count_over slots slots' place p new was now, one.one)) (room_stays _ _ _ long)

    -- Two pairs are put back, the first one at the place.
    pub undone_both : (p first second : L × R) (grown slots' : List (Option (L × R))) (other : ℕ) → pair_at grown place ≡ Some p → ((q : ℕ) → pair_at grown q ≡ pair_at slots q) → IsRoomAfter (holding_of slots) ⊥ (holding_of grown)
        → other < length (slice_set grown place (Some first)) → pair_at (slice_set grown place (Some first)) other ≡ None → slots' ≡ slice_set (slice_set grown place (Some first)) other (Some second)
        → IsUndoing same_left same_right (holding_of slots) left (Both first second) (Ok p) (holding_of slots')
    undone_both p first second grown slots' other was kept room within free now =
        let before = sym (kept place) ∙ was in
        let inside = live_within slots place p before in
        let long : length slots' ≡ length grown = ap length now ∙ length-set (slice_set grown place (Some first)) other (Some second) ∙ length-set grown place (Some first) in
        let same = same_taken slots grown place inside room.not_lower kept in
        undoing_by p before (Both first second) slots' (λ q.
        let h = held_both grown place other first second (live_within grown place p was) within free q in (
          λ c. elim (h.0 (subst (λ z. Contains (pairs_in z) q) now c)) [ inl n ↦ inl n | inr d ↦ inr (subst (λ z. Contains z q) same d) ],
          λ m. subst (λ z. Contains (pairs_in z) q) (sym now) (h.1 (elim m [ inl n ↦ inl n | inr d ↦ inr (subst (λ z. Contains z q) (sym same) d) ])),
        )) (omega (arith, count_over grown (slice_set grown place (Some first)) place p first was refl, count_new (slice_set grown place (Some first)) slots' other second within free now, ap length (pairs_kept slots grown kept))) (room_made _ (holding_of grown) _ _ long (λ n. n tt) room)

module _ {L R : Type 0} (same_left : L → L → Bool) (same_right : R → R → Bool) where
  -- The call ran out of memory.
  pub undo_refused : (slots slots' : List (Option (L × R))) (left : L) (first second : L × R) → pair_count slots ≡ length slots → slots' ≡ slots → IsUndoing same_left same_right (holding_of slots) left (Both first second) (Err (record { answer = Both first second })) (holding_of slots')
  undo_refused slots slots' left first second full same = record {
    taken = tt;
    undone = tt;
    count = tt;
    handed_back = refl;
    both = tt;
    full = length-pairs_in slots ∙ full;
    unchanged = ap holding_of same;
    room = room_stays _ _ _ (ap length same);
  }

-- A replacement that is recorded and undone.
-- The function `before` makes the old pair of the new one, so each lemma serves both sides.
use Rattle.std.proofs.Common.{◌≡◌, ◌∙◌, inl, inr, Bool, true, List, refl, sym, ap, subst, true≢false}
use Rattle.std.specs.Prelude.{Contains, Option, Some, None, IsSome, IfNone}
use Rattle.std.specs.Cmp.{IsEquivalence}
use Rattle.std.proofs.lemmas.Bool.{or_left, or_right, false_from_ne_true, cases_Bool}
use Rattle.bimap.specs.Sets.{shares, IsApart, IsSameSet, IsWithPut, HasLeft, LacksLeft, IsWithoutLeft}
use Rattle.bimap.specs.Exchange.{IsExchanged}
use Rattle.bimap.proofs.Apart.{apart_unique, shares_itself, shares_symm}
use Rattle.bimap.proofs.Removals.{removing_left}
use Rattle.bimap_undo.specs.Marks.{IsReplacing}

module _ {L R : Type 0} (same_left : L → L → Bool) (same_right : R → R → Bool) (lefts : IsEquivalence same_left) (rights : IsEquivalence same_right) where
  -- A pair shares a value with the pair that differs only in its left, and with the pair that differs only in its
  -- right.
  pub left_close : (old : L) (p : L × R) → shares same_left same_right p (old, p.1) ≡ true
  left_close old p = or_right (same_left p.0 old) (same_right p.1 p.1) (rights.refl p.1)

  pub right_close : (old : R) (p : L × R) → shares same_left same_right p (p.0, old) ≡ true
  right_close old p = or_left (same_left p.0 p.0) (same_right p.1 old) (lefts.refl p.0)

  -- An exchange of two pairs that share a value, reversed.
  exchanged_back : (A B : List (L × R)) (p other : L × R) → IsApart same_left same_right A → shares same_left same_right other p ≡ true → IsExchanged (Contains A) p other (Contains B) → IsExchanged (Contains B) other p (Contains A)
  exchanged_back A B p other apart close e = record {
    member = (e.exchanged other).1 (inl refl);
    exchanged = λ q. (
      λ m. elim (cases_Bool (shares same_left same_right q p)) [
        | inl s ↦ inl (apart_unique same_left same_right lefts rights A q p apart m e.member s)
        | inr s ↦ inr ((e.exchanged q).1 (inr (m, λ f. true≢false (sym (shares_itself same_left same_right lefts rights p) ∙ ap (λ z. shares same_left same_right z p) (sym f) ∙ s))), λ f. true≢false (sym close ∙ ap (λ z. shares same_left same_right z p) (sym f) ∙ s))
      ],
      λ n. elim n [
        | inl f ↦ subst (Contains A) (sym f) e.member
        | inr w ↦ elim ((e.exchanged q).0 w.0) [ inl f ↦ absurd (w.1 f) | inr v ↦ v.0 ]
      ],
    );
  }

  module _ (A B : List (L × R)) (left : L) (before : L × R → L × R) (close : (p : L × R) → shares same_left same_right p (before p) ≡ true) (apart : IsApart same_left same_right A) (after : IsApart same_left same_right B) (i : IsReplacing same_left same_right A left before B) where
    new_there : Contains B i.pair
    new_there = (i.exchanged.exchanged i.pair).1 (inl refl)

    pub has_new : HasLeft same_left (Contains B) left
    has_new = (i.pair, new_there, i.by_left)

    -- The pair that has the left is the new one.
    exchanged_at : (p : L × R) → Contains B p → same_left p.0 left ≡ true → IsExchanged (Contains B) p (before p) (Contains A)
    exchanged_at p m e =
        let by : same_left i.pair.0 p.0 ≡ true = lefts.symm i.pair.0 p.0 ∙ sym (lefts.congr left p.0 i.pair.0 (lefts.symm left p.0 ∙ e)) ∙ lefts.symm left i.pair.0 ∙ i.by_left in
        let one : i.pair ≡ p = apart_unique same_left same_right lefts rights B i.pair p after new_there m (or_left (same_left i.pair.0 p.0) (same_right i.pair.1 p.1) by) in
        subst (λ z. IsExchanged (Contains B) z (before z) (Contains A)) one (exchanged_back A B (before i.pair) i.pair apart (close i.pair) i.exchanged)

    -- Removing the new pair and inserting the old one gives the set before the replacement.
    pub replaced_back : (T U : List (L × R)) (p : L × R) → Contains B p × (same_left p.0 left ≡ true) → IsWithoutLeft same_left (Contains B) left (Contains T) → IsWithPut same_left same_right (Contains T) (before p) (Contains U) → IsSameSet (Contains A) (Contains U)
    replaced_back T U p removed without put q =
        let e = exchanged_at p removed.0 removed.1 in
        let r = removing_left same_left same_right lefts rights B p T after left removed.0 removed.1 without in (
          λ m. (put q).1 (elim ((e.exchanged q).0 m) [
            | inl f ↦ inl f
            | inr w ↦ inr ((r.without q).1 w, false_from_ne_true (shares same_left same_right q (before p)) (λ s. w.1 (apart_unique same_left same_right lefts rights B q p after w.0 removed.0 (ap (λ z. shares same_left same_right z p) (apart_unique same_left same_right lefts rights A q (before p) apart m ((e.exchanged (before p)).1 (inl refl)) s) ∙ shares_symm same_left same_right lefts rights (before p) p ∙ close p))))
          ]),
          λ n. elim ((put q).0 n) [ inl f ↦ (e.exchanged q).1 (inl f) | inr w ↦ (e.exchanged q).1 (inr ((r.without q).0 w.0)) ],
        )

  -- A replacement leads to a set from one set alone.
  pub replacing_from_one : (A A' B : List (L × R)) (left : L) (before : L × R → L × R) → ((p : L × R) → shares same_left same_right p (before p) ≡ true) → IsApart same_left same_right A → IsApart same_left same_right A' → IsApart same_left same_right B → IsReplacing same_left same_right A left before B → IsReplacing same_left same_right A' left before B → IsSameSet (Contains A) (Contains A')
  replacing_from_one A A' B left before close apart apart' after i j q =
      let m : Contains B i.pair = (i.exchanged.exchanged i.pair).1 (inl refl) in
      let e = exchanged_at A B left before close apart after i i.pair m i.by_left in
      let f = exchanged_at A' B left before close apart' after j i.pair m i.by_left in
      (λ n. (f.exchanged q).1 ((e.exchanged q).0 n), λ n. (e.exchanged q).1 ((f.exchanged q).0 n))

-- A look-up finds a pair if there is one.
pub found_there : {L R : Type 0} (same_left : L → L → Bool) (S : L × R → Type 0) (left : L) (found : Option (L × R)) → IfNone found (LacksLeft same_left S left) → HasLeft same_left S left → IsSome found
found_there same_left S left (Some p) none has = refl
found_there same_left S left None none has = absurd (true≢false (sym has.2 ∙ none has.0 has.1))

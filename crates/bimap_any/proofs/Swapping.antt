-- Two pairs exchange their rights. Both pairs are removed, and each left is inserted with the right of the other.
use Rattle.std.proofs.Common.{◌≡◌, ◌≢◌, ◌||◌, inl, inr, Bool, true, false, List, sym, ap, subst, ◌∙◌, true≢false}
use Rattle.std.specs.Prelude.{Contains}
use Rattle.std.specs.Cmp.{IsEquivalence}
use Rattle.std.proofs.lemmas.Bool.{or_left, or_right, or_from, false_from_ne_true, cases_Bool}
use Rattle.bimap_base.specs.Sets.{shares, IsApart, NoneShares, IsWithPut}
use Rattle.bimap_any.specs.Exchange.{IsWithoutPair, AreSwapped}
use Rattle.bimap_base.proofs.Apart.{apart_unique, shares_itself}

module _ {L R : Type 0} (same_left : L → L → Bool) (same_right : R → R → Bool) (lefts : IsEquivalence same_left) (rights : IsEquivalence same_right) where
  -- If the two lefts are equal, nothing changes.
  pub swapped_with_itself : (held : List (L × R)) (p : L × R) (left right : L) → IsApart same_left same_right held → Contains held p → same_left p.0 left ≡ true → same_left p.0 right ≡ true → AreSwapped same_left (Contains held) left right (Contains held)
  swapped_with_itself held p left right apart there by_left by_other =
      record {
        first = p;
        second = p;
        by_left = (there, by_left);
        by_other = (there, by_other);
        swapped = λ x. (
          λ m. elim (cases_Bool (shares same_left same_right x p)) [
            | inl e ↦ inl (apart_unique same_left same_right lefts rights held x p apart m there e)
            | inr e ↦
                let other : x ≢ p = λ f. true≢false (sym (shares_itself same_left same_right lefts rights p) ∙ ap (λ z. shares same_left same_right z p) (sym f) ∙ e) in
                inr (inr (m, other, other))
          ],
          λ either. elim either [
            | inl e ↦ subst (Contains held) (sym e) there
            | inr more ↦ elim more [ inl e ↦ subst (Contains held) (sym e) there | inr s ↦ s.0 ]
          ],
        );
      }

module _ {L R : Type 0} (same_left : L → L → Bool) (same_right : R → R → Bool) (lefts : IsEquivalence same_left) (rights : IsEquivalence same_right) (old less none once : List (L × R)) (apart : IsApart same_left same_right old) (p q : L × R) (first : IsWithoutPair old p less) (second : IsWithoutPair less q none) where
  -- Two of the old pairs share no value.
  away : (x y : L × R) → Contains old x → Contains old y → x ≢ y → (same_left x.0 y.0 ≡ false) × (same_right x.1 y.1 ≡ false)
  away x y m n differ = (
    false_from_ne_true (same_left x.0 y.0) (λ e. differ (apart_unique same_left same_right lefts rights old x y apart m n (or_left (same_left x.0 y.0) (same_right x.1 y.1) e))),
    false_from_ne_true (same_right x.1 y.1) (λ e. differ (apart_unique same_left same_right lefts rights old x y apart m n (or_right (same_left x.0 y.0) (same_right x.1 y.1) e))),
  )

  -- The pairs that are left are old pairs, and are neither of the two.
  stayed : (x : L × R) → Contains none x → Contains old x × (x ≢ p) × (x ≢ q)
  stayed x m = let a = (second.without x).0 m in let b = (first.without x).0 a.0 in (b.0, b.1, a.1)

  other : Contains old q × (q ≢ p)
  other = (first.without q).0 second.member

  pub first_fits : NoneShares same_left same_right (Contains none) (q.0, p.1)
  first_fits x m =
      let s = stayed x m in
      or_from (same_left x.0 q.0) (same_right x.1 p.1) (away x q s.0 other.0 s.2).0 (away x p s.0 first.member s.1).1

  module _ (put : IsWithPut same_left same_right (Contains none) (q.0, p.1) (Contains once)) where
    pub second_fits : NoneShares same_left same_right (Contains once) (p.0, q.1)
    second_fits x m =
        elim ((put x).0 m) [
          | inl e ↦
              let w = away p q first.member other.0 (λ f. other.1 (sym f)) in
              let v = away q p other.0 first.member other.1 in
              subst (λ (z : L × R). ◌≡◌ {A = Bool} (same_left z.0 p.0 || same_right z.1 q.1) false) (sym e) (or_from (same_left q.0 p.0) (same_right p.1 q.1) v.0 w.1)
          | inr b ↦
              let s = stayed x b.0 in
              or_from (same_left x.0 p.0) (same_right x.1 q.1) (away x p s.0 first.member s.1).0 (away x q s.0 other.0 s.2).1
        ]

    pub swapped : (T : L × R → Type 0) (left right : L) → same_left p.0 left ≡ true → same_left q.0 right ≡ true → IsWithPut same_left same_right (Contains once) (p.0, q.1) T → AreSwapped same_left (Contains old) left right T
    swapped T left right by_left by_other again =
        record {
          first = p;
          second = q;
          by_left = (first.member, by_left);
          by_other = (other.0, by_other);
          swapped = λ x. (
            λ n. elim ((again x).0 n) [
              | inl e ↦ inl e
              | inr c ↦ elim ((put x).0 c.0) [ inl e ↦ inr (inl e) | inr b ↦ inr (inr (stayed x b.0)) ]
            ],
            λ either. (again x).1 (elim either [
              | inl e ↦ inl e
              | inr more ↦
                  elim more [
                    | inl e ↦ let c = (put x).1 (inl e) in inr (c, second_fits x c)
                    | inr s ↦
                        let b = (second.without x).1 ((first.without x).1 (s.0, s.1), s.2) in
                        let c = (put x).1 (inr (b, first_fits x b)) in
                        inr (c, second_fits x c)
                  ]
            ]),
          );
        }

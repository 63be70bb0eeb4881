-- Lists in which no two pairs share a value.
use Rattle.std.proofs.Common.{◌≡◌, ◌⊎◌, inl, inr, zero, suc, ◌≤◌, ◌||◌, Bool, true, false, List, [], ◌∷◌, length, refl, sym, ap, ◌∙◌, subst, arith, true≢false}
use Rattle.std.specs.Prelude.{Contains}
use Rattle.std.specs.Cmp.{IsEquivalence}
use Rattle.std.proofs.lemmas.Bool.{or_left}
use Rattle.std.proofs.lemmas.List.{get_or_default}
use Rattle.bimap_base.specs.Sets.{shares, IsApart, IsWithPut}
use Rattle.bimap_base.proofs.Members.{head_in, more_in, cases_in, none_in, AllPairs-head, AllPairs-tail}

module _ {L R : Type 0} (same_left : L → L → Bool) (same_right : R → R → Bool) where
  pub apart_head : (p : L × R) (ps : List (L × R)) → IsApart same_left same_right (p ∷ ps) → (q : L × R) → Contains ps q → shares same_left same_right p q ≡ false
  apart_head = AllPairs-head (λ p q. shares same_left same_right p q ≡ false)

  pub apart_tail : (p : L × R) (ps : List (L × R)) → IsApart same_left same_right (p ∷ ps) → IsApart same_left same_right ps
  apart_tail = AllPairs-tail (λ p q. shares same_left same_right p q ≡ false)

  pub apart_none : IsApart same_left same_right []
  apart_none i j d before inside = absurd (omega (arith, inside))

  -- A pair that shares no value with the pairs of the list is put before them.
  pub apart_more : (p : L × R) (ps : List (L × R)) → ((q : L × R) → Contains ps q → shares same_left same_right p q ≡ false) → IsApart same_left same_right ps → IsApart same_left same_right (p ∷ ps)
  apart_more p ps head tail i zero d before inside = absurd (omega (arith, before))
  apart_more p ps head tail zero (suc j) d before inside = head _ (j, omega (arith, inside), get_or_default ps j _ d (omega (arith, inside)))
  apart_more p ps head tail (suc i) (suc j) d before inside = tail i j d (omega (arith, before)) (omega (arith, inside))

module _ {L R : Type 0} (same_left : L → L → Bool) (same_right : R → R → Bool) (lefts : IsEquivalence same_left) (rights : IsEquivalence same_right) where
  pub shares_symm : (p q : L × R) → shares same_left same_right p q ≡ shares same_left same_right q p
  shares_symm p q = ap (λ b. b || same_right p.1 q.1) (lefts.symm p.0 q.0) ∙ ap (λ b. same_left q.0 p.0 || b) (rights.symm p.1 q.1)

  pub shares_itself : (p : L × R) → shares same_left same_right p p ≡ true
  shares_itself p = or_left (same_left p.0 p.0) (same_right p.1 p.1) (lefts.refl p.0)

  -- Two pairs of the list that share a value are the same pair.
  pub apart_unique : (ps : List (L × R)) (p q : L × R) → IsApart same_left same_right ps → Contains ps p → Contains ps q → shares same_left same_right p q ≡ true → p ≡ q
  apart_unique [] p q h m n e = none_in p m
  apart_unique (y ∷ ys) p q h m n e =
      elim (cases_in y ys p m) [
        | inl v ↦
            elim (cases_in y ys q n) [
              | inl w ↦ sym v ∙ w
              | inr w ↦ absurd (true≢false (sym e ∙ ap (λ z. shares same_left same_right z q) (sym v) ∙ apart_head same_left same_right y ys h q w))
            ]
        | inr v ↦
            elim (cases_in y ys q n) [
              | inl w ↦ absurd (true≢false (sym e ∙ shares_symm p q ∙ ap (λ z. shares same_left same_right z p) (sym w) ∙ apart_head same_left same_right y ys h p v))
              | inr w ↦ apart_unique ys p q (apart_tail same_left same_right y ys h) v w e
            ]
      ]

  -- The list without one of its pairs.
  pub record Pulled (ps : List (L × R)) (p : L × R) : Type 0 where
    pub rest : List (L × R)
    pub long : length ps ≡ suc (length rest)
    pub apart : IsApart same_left same_right rest
    pub to : (q : L × R) → Contains ps q → (q ≡ p) ⊎ Contains rest q
    pub from : (q : L × R) → Contains rest q → Contains ps q × (shares same_left same_right q p ≡ false)

  pub pull : (ps : List (L × R)) (p : L × R) → IsApart same_left same_right ps → Contains ps p → Pulled ps p
  pull [] p h m = none_in p m
  pull (a ∷ ps) p h m =
      elim (cases_in a ps p m) [
        | inl e ↦ record {
          rest = ps;
          long = refl;
          apart = apart_tail same_left same_right a ps h;
          to = λ q n. elim (cases_in a ps q n) [ inl f ↦ inl (sym f ∙ e) | inr k ↦ inr k ];
          from = λ q n. (more_in a ps q n, subst (λ z. shares same_left same_right q z ≡ false) e (shares_symm q a ∙ apart_head same_left same_right a ps h q n));
        }
        | inr n ↦
            let r = pull ps p (apart_tail same_left same_right a ps h) n in
            record {
              rest = a ∷ r.rest;
              long = ap suc r.long;
              apart = apart_more same_left same_right a r.rest (λ q k. apart_head same_left same_right a ps h q (r.from q k).0) r.apart;
              to = λ q k. elim (cases_in a ps q k) [
                | inl f ↦ inr (subst (Contains (a ∷ r.rest)) f (head_in a r.rest))
                | inr j ↦ elim (r.to q j) [ inl f ↦ inl f | inr i ↦ inr (more_in a r.rest q i) ]
              ];
              from = λ q k. elim (cases_in a r.rest q k) [
                | inl f ↦ (subst (Contains (a ∷ ps)) f (head_in a ps), subst (λ z. shares same_left same_right z p ≡ false) f (apart_head same_left same_right a ps h p n))
                | inr j ↦ (more_in a ps q (r.from q j).0, (r.from q j).1)
              ];
            }
      ]

  -- If all pairs of a list are in another list, it is not longer than the other list.
  pub no_longer : (ps qs : List (L × R)) → IsApart same_left same_right ps → IsApart same_left same_right qs → ((p : L × R) → Contains ps p → Contains qs p) → length ps ≤ length qs
  no_longer [] qs h k s = omega arith
  no_longer (p ∷ ps) qs h k s =
      let r = pull qs p k (s p (head_in p ps)) in
      let l = no_longer ps r.rest (apart_tail same_left same_right p ps h) r.apart (λ q m. elim (r.to q (s q (more_in p ps q m))) [
        | inl e ↦ absurd (true≢false (sym (shares_itself p) ∙ ap (λ z. shares same_left same_right p z) (sym e) ∙ apart_head same_left same_right p ps h q m))
        | inr n ↦ n
      ]) in
      omega (arith, l, r.long)

  -- The insertion of a pair makes a list longer by at most one.
  pub one_longer : (ps qs : List (L × R)) (new : L × R) → IsApart same_left same_right ps → IsApart same_left same_right qs → IsWithPut same_left same_right (Contains ps) new (Contains qs) → length qs ≤ suc (length ps)
  one_longer ps qs new h k put =
      let r = pull qs new k ((put new).1 (inl refl)) in
      let l = no_longer r.rest ps r.apart h (λ q m. elim ((put q).0 (r.from q m).0) [
        | inl e ↦ absurd (true≢false (sym (shares_itself new) ∙ ap (λ z. shares same_left same_right z new) (sym e) ∙ (r.from q m).1))
        | inr w ↦ w.0
      ]) in
      omega (arith, l, r.long)

-- The removal of one pair.
use Rattle.std.proofs.Common.{◌≡◌, inl, inr, suc, ◌≤◌, Bool, true, List, ◌∷◌, length, sym, ap, ◌∙◌, subst, true≢false}
use Rattle.std.specs.Prelude.{Contains}
use Rattle.std.specs.Cmp.{IsEquivalence}
use Rattle.std.proofs.lemmas.Bool.{or_left, or_right, false_from_ne_true, cases_Bool}
use Rattle.bimap_base.specs.Sets.{shares, IsApart, IsSameSet, IsWithPut, IsWithoutLeft, IsWithoutRight}
use Rattle.bimap_base.proofs.Members.{cases_in}
use Rattle.bimap_base.proofs.Apart.{apart_more, apart_unique, no_longer, shares_itself}
use Rattle.bimap_any.specs.Exchange.{IsWithoutPair}

module _ {L R : Type 0} (same_left : L → L → Bool) (same_right : R → R → Bool) (lefts : IsEquivalence same_left) (rights : IsEquivalence same_right) where
  module _ (A : List (L × R)) (p : L × R) (B : List (L × R)) (apart : IsApart same_left same_right A) where
    -- There is one pair less.
    pub removing_shorter : IsApart same_left same_right B → IsWithoutPair A p B → suc (length B) ≤ length A
    removing_shorter apart_after r =
        no_longer same_left same_right lefts rights (p ∷ B) A
        (apart_more same_left same_right p B (λ q n. false_from_ne_true (shares same_left same_right p q) (λ e. ((r.without q).0 n).1 (sym (apart_unique same_left same_right lefts rights A p q apart r.member ((r.without q).0 n).0 e)))) apart_after)
        apart
        (λ q n. elim (cases_in p B q n) [ inl e ↦ subst (Contains A) e r.member | inr m ↦ ((r.without q).0 m).0 ])

    -- To insert the pair again gives the set before the removal.
    pub put_again : (T : List (L × R)) → IsWithoutPair A p B → IsWithPut same_left same_right (Contains B) p (Contains T) → IsSameSet (Contains A) (Contains T)
    put_again T r put q = (
      λ n. (put q).1 (elim (cases_Bool (shares same_left same_right q p)) [
        | inl e ↦ inl (apart_unique same_left same_right lefts rights A q p apart n r.member e)
        | inr e ↦ inr ((r.without q).1 (n, λ f. true≢false (sym (shares_itself same_left same_right lefts rights p) ∙ ap (λ z. shares same_left same_right z p) (sym f) ∙ e)), e)
      ]),
      λ n. elim ((put q).0 n) [ inl e ↦ subst (Contains A) (sym e) r.member | inr w ↦ ((r.without q).0 w.0).0 ],
    )

    -- A removal by left removes one pair.
    pub removing_left : (left : L) → Contains A p → same_left p.0 left ≡ true → IsWithoutLeft same_left (Contains A) left (Contains B) → IsWithoutPair A p B
    removing_left left m e w = record {
      member = m;
      without = λ q. (
        λ n. (((w q).0 n).0, λ f. true≢false (sym e ∙ ap (λ (z : L × R). same_left z.0 left) (sym f) ∙ ((w q).0 n).1)),
        λ n. (w q).1 (n.0, false_from_ne_true (same_left q.0 left) (λ g. n.1 (apart_unique same_left same_right lefts rights A q p apart n.0 m (or_left (same_left q.0 p.0) (same_right q.1 p.1) (lefts.symm q.0 p.0 ∙ sym (lefts.congr left p.0 q.0 (lefts.symm left p.0 ∙ e)) ∙ lefts.symm left q.0 ∙ g))))),
      );
    }

    -- A removal by right removes one pair.
    pub removing_right : (right : R) → Contains A p → same_right p.1 right ≡ true → IsWithoutRight same_right (Contains A) right (Contains B) → IsWithoutPair A p B
    removing_right right m e w = record {
      member = m;
      without = λ q. (
        λ n. (((w q).0 n).0, λ f. true≢false (sym e ∙ ap (λ (z : L × R). same_right z.1 right) (sym f) ∙ ((w q).0 n).1)),
        λ n. (w q).1 (n.0, false_from_ne_true (same_right q.1 right) (λ g. n.1 (apart_unique same_left same_right lefts rights A q p apart n.0 m (or_right (same_left q.0 p.0) (same_right q.1 p.1) (rights.symm q.1 p.1 ∙ sym (rights.congr right p.1 q.1 (rights.symm right p.1 ∙ e)) ∙ rights.symm right q.1 ∙ g))))),
      );
    }

  -- If the removal of the same pair from two sets gives the same set, each member of one set is a member of the other.
  removed_in : (A A' : List (L × R)) (p : L × R) (B : List (L × R)) → IsApart same_left same_right A → IsWithoutPair A p B → IsWithoutPair A' p B → (q : L × R) → Contains A q → Contains A' q
  removed_in A A' p B apart r r' q m =
      elim (cases_Bool (shares same_left same_right q p)) [
        | inl s ↦ subst (Contains A') (sym (apart_unique same_left same_right lefts rights A q p apart m r.member s)) r'.member
        | inr s ↦ ((r'.without q).0 ((r.without q).1 (m, λ f. true≢false (sym (shares_itself same_left same_right lefts rights p) ∙ ap (λ z. shares same_left same_right z p) (sym f) ∙ s)))).0
      ]

  -- Only one set gives this set by the removal of this pair.
  pub removing_from_one : (A A' : List (L × R)) (p : L × R) (B : List (L × R)) → IsApart same_left same_right A → IsApart same_left same_right A' → IsWithoutPair A p B → IsWithoutPair A' p B → IsSameSet (Contains A) (Contains A')
  removing_from_one A A' p B apart apart' r r' q = (removed_in A A' p B apart r r' q, removed_in A' A p B apart' r' r q)

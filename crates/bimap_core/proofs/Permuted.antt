-- Lists of distinct elements with the same elements. The pairs of an iteration are those of the store in another order.
use Rattle.std.proofs.Common.{◌≡◌, ◌≢◌, ◌⊎◌, ◌↔◌, ℕ, Bool, List, [], ◌∷◌, ◌++◌, get_or, Option, sym, ap, subst, ◌∙◌, inl, inr, true≢false, Contains}
use Rattle.std.specs.List.{AllPairs}
use Rattle.std.specs.List.Sorted.{IsPermutation}
use Rattle.std.specs.Cmp.{IsEquivalence}
use Rattle.std.proofs.lemmas.List.{get_or_default}
use Rattle.std.proofs.lemmas.List.Kept.{AllPairs-cons}
use Rattle.std.proofs.lemmas.List.Sorted.{IsPermutation-refl, IsPermutation-sym, IsPermutation-trans, IsPermutation-cons, IsPermutation-middle}
use Rattle.std.proofs.lemmas.List.Elements.{Contains-append_left, Contains-append_right, Contains-append_cases}
use Rattle.bimap_base.specs.PairsAt.{pairs_at}
use Rattle.bimap_base.specs.Places.{pairs_in}
use Rattle.bimap_base.specs.Sets.{shares, IsApart}
use Rattle.bimap_base.proofs.Members.{head_in, more_in, cases_in, none_in, AllPairs-head, AllPairs-tail}
use Rattle.bimap_base.proofs.Walk.{IsWalk, walked, apart_walked}
use Rattle.bimap_core.proofs.Inserting.{left_of_two}
use Rattle.bimap_core.proofs.Places.{apart_at_places}

module _ {X : Type 0} where
  split_at : (ys : List X) (x : X) → Contains ys x → (a : List X) × (b : List X) × (ys ≡ a ++ x ∷ b)
  split_at [] x c = none_in x c
  split_at (y ∷ ys) x c = by (cases_in y ys x c) (λ d. split_at ys x d)
    where
      by : (y ≡ x) ⊎ Contains ys x → (Contains ys x → (a : List X) × (b : List X) × (ys ≡ a ++ x ∷ b)) → (a : List X) × (b : List X) × (y ∷ ys ≡ a ++ x ∷ b)
      by (inl same) rest = ([], ys, ap (λ z. z ∷ ys) same)
      by (inr d) rest = let w = rest d in (y ∷ w.0, w.1, ap (λ z. y ∷ z) w.2)

  pub apart_left : (a : List X) (x : X) (b : List X) → AllPairs (λ p q. p ≢ q) (a ++ x ∷ b) → (p : X) → Contains (a ++ b) p → p ≢ x
  apart_left [] x b all p c e = AllPairs-head (λ p q. p ≢ q) x b all p c (sym e)
  apart_left (y ∷ a) x b all p c e =
      elim (cases_in y (a ++ b) p c) [
        | inl same ↦ AllPairs-head (λ p q. p ≢ q) y (a ++ x ∷ b) all x (Contains-append_right a (x ∷ b) x (head_in x b)) (same ∙ e)
        | inr d ↦ apart_left a x b (AllPairs-tail (λ p q. p ≢ q) y (a ++ x ∷ b) all) p d e
      ]

  pub with_it : (a b : List X) (x p : X) → Contains (a ++ b) p → Contains (a ++ x ∷ b) p
  with_it a b x p c = elim (Contains-append_cases a b p c) [
    | inl d ↦ Contains-append_left a (x ∷ b) p d
    | inr d ↦ Contains-append_right a (x ∷ b) p (more_in x b p d)
  ]

  pub without_it : (a b : List X) (x p : X) → Contains (a ++ x ∷ b) p → p ≢ x → Contains (a ++ b) p
  without_it a b x p c away = elim (Contains-append_cases a (x ∷ b) p c) [
    | inl d ↦ Contains-append_left a b p d
    | inr d ↦ elim (cases_in x b p d) [ inl e ↦ absurd (away (sym e)) | inr f ↦ Contains-append_right a b p f ]
  ]

  -- What is true of any two elements stays true after one element is removed.
  pub all_without : (S : X → X → Type 0) (a : List X) (x : X) (b : List X) → AllPairs S (a ++ x ∷ b) → AllPairs S (a ++ b)
  all_without S [] x b all = AllPairs-tail S x b all
  all_without S (y ∷ a) x b all =
      AllPairs-cons S y (a ++ b)
      (λ k d l. AllPairs-head S y (a ++ x ∷ b) all (get_or (a ++ b) k d) (with_it a b x (get_or (a ++ b) k d) (k, l, get_or_default (a ++ b) k (get_or (a ++ b) k d) d l)))
      (all_without S a x b (AllPairs-tail S y (a ++ x ∷ b) all))

  -- Lists of distinct elements with the same elements differ only in their order.
  pub permuted : (xs ys : List X) → AllPairs (λ p q. p ≢ q) xs → AllPairs (λ p q. p ≢ q) ys → ((p : X) → Contains xs p ↔ Contains ys p) → IsPermutation xs ys
  permuted [] [] apart apart' same = IsPermutation-refl []
  permuted [] (y ∷ ys) apart apart' same = none_in y ((same y).1 (head_in y ys))
  permuted (x ∷ xs) ys apart apart' same =
      let w = split_at ys x ((same x).0 (head_in x xs)) in
      let a = w.0 in
      let b = w.1 in
      let apart'' = subst (AllPairs (λ p q. p ≢ q)) w.2 apart' in
      let rest = permuted xs (a ++ b) (AllPairs-tail (λ p q. p ≢ q) x xs apart) (all_without (λ p q. p ≢ q) a x b apart'') (λ p. (
        λ c. without_it a b x p ((subst (λ z. Contains z p) w.2 ((same p).0 (more_in x xs p c)))) (λ e. AllPairs-head (λ p q. p ≢ q) x xs apart p c (sym e)),
        λ c. back p (cases_in x xs p ((same p).1 (subst (λ z. Contains z p) (sym w.2) (with_it a b x p c)))) (apart_left a x b apart'' p c),
      )) in
      subst (IsPermutation (x ∷ xs)) (sym w.2) (IsPermutation-trans (x ∷ xs) (x ∷ (a ++ b)) (a ++ x ∷ b) (IsPermutation-cons x xs (a ++ b) rest) (IsPermutation-sym (a ++ x ∷ b) (x ∷ (a ++ b)) (IsPermutation-middle a x b)))
    where
      back : (p : X) → (x ≡ p) ⊎ Contains xs p → p ≢ x → Contains xs p
      back p (inl e) away = absurd (away (sym e))
      back p (inr c) away = c

-- If no two pairs share a value, the pairs are distinct.
pub distinct : {L R : Type 0} (same_left : L → L → Bool) (same_right : R → R → Bool) → IsEquivalence same_left → (pairs : List (L × R)) → IsApart same_left same_right pairs → AllPairs (λ p q. p ≢ q) pairs
distinct same_left same_right equal pairs all i j d before inside e =
    let p = get_or pairs i d in
    true≢false (sym (left_of_two (same_left p.0 p.0) (same_right p.1 p.1) (equal.refl p.0)) ∙ ap (shares same_left same_right p) e ∙ all i j d before inside)

module _ {L R : Type 0} {same_left : L → L → Bool} {same_right : R → R → Bool} (equal_left : IsEquivalence same_left) (equal_right : IsEquivalence same_right) (slots : List (Option (L × R))) (places : List ℕ) (walk : IsWalk slots places) (apart : IsApart same_left same_right (pairs_in slots)) where
  -- No two pairs of an iteration share a value.
  pub walk_apart : IsApart same_left same_right (pairs_at slots places)
  walk_apart = apart_walked same_left same_right slots places walk (apart_at_places same_left same_right equal_left equal_right slots apart)

  -- The pairs of an iteration are those of the store in another order.
  pub walk_permuted : IsPermutation (pairs_at slots places) (pairs_in slots)
  walk_permuted = permuted (pairs_at slots places) (pairs_in slots) (distinct same_left same_right equal_left (pairs_at slots places) walk_apart) (distinct same_left same_right equal_left (pairs_in slots) apart) (λ p. let w = walked slots places walk p in (w.1, w.0))

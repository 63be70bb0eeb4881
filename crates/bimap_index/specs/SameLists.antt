-- Two lists that ascend by the same order and have the same elements are equal.
use Rattle.std.specs.Prelude.{◌≡◌, ◌↔◌, ◌⊎◌, List, [], ◌∷◌}
use Rattle.std.proofs.Common.{sym, ap, subst, ◌∙◌, refl, inl, inr}
use Rattle.std.specs.List.{AllPairs, Contains}
use Rattle.bimap_base.proofs.Members.{head_in, more_in, cases_in, none_in, AllPairs-head, AllPairs-tail}

module _ {X : Type 0} (Below : X → X → Type 0) (strict : (x y : X) → Below x y → Below y x → ⊥) where
  -- Two lists have equal heads, and each element of the first list is in the second one.
  -- Then each element of the first tail is in the second tail.
  tail_in : (x y : X) (xs ys : List X) → AllPairs Below (x ∷ xs) → x ≡ y → (q : X) → (Contains (x ∷ xs) q → Contains (y ∷ ys) q) → Contains xs q → Contains ys q
  tail_in x y xs ys up e q within c = by (cases_in y ys q (within (more_in x xs q c)))
    where
      by : (y ≡ q) ⊎ Contains ys q → Contains ys q
      by (inl same) = let itself : Below x x = subst (Below x) (sym (e ∙ same)) (AllPairs-head Below x xs up q c) in absurd (strict x x itself itself)
      by (inr d) = d

  -- Ascending lists with the same elements are equal.
  pub same_ascending : (xs ys : List X) → AllPairs Below xs → AllPairs Below ys → ((q : X) → Contains xs q ↔ Contains ys q) → xs ≡ ys
  same_ascending [] [] up up' same = refl
  same_ascending [] (y ∷ ys) up up' same = none_in y ((same y).1 (head_in y ys))
  same_ascending (x ∷ xs) [] up up' same = none_in x ((same x).0 (head_in x xs))
  same_ascending (x ∷ xs) (y ∷ ys) up up' same =
      let e : x ≡ y = heads (cases_in y ys x ((same x).0 (head_in x xs))) (cases_in x xs y ((same y).1 (head_in y ys))) in
      let rest : xs ≡ ys = same_ascending xs ys (AllPairs-tail Below x xs up) (AllPairs-tail Below y ys up') (λ q. (tail_in x y xs ys up e q (same q).0, tail_in y x ys xs up' (sym e) q (same q).1)) in
      ap (λ z. z ∷ xs) e ∙ ap (λ zs. y ∷ zs) rest
    where
      heads : (y ≡ x) ⊎ Contains ys x → (x ≡ y) ⊎ Contains xs y → x ≡ y
      heads (inl e) d = sym e
      heads (inr c) (inl e) = e
      heads (inr c) (inr d) = absurd (strict x y (AllPairs-head Below x xs up y d) (AllPairs-head Below y ys up' x c))

-- A list whose last element is removed.
use Rattle.std.proofs.Common.{◌≡◌, ℕ, ◌<◌, ◌-◌, zero, ◌∙◌, List, [], ◌∷◌, ◌++◌, length, take, drop, suc, slice_get, Option, Some, None, refl, sym, ap, arith, drop-cons}
use Rattle.std.specs.Map.Iter.{TakesLast}
use Rattle.std.proofs.lemmas.List.{take-append-drop, drop_all, append-nil}
use Rattle.std.proofs.lemmas.Option.{slice_get-get_or, slice_get_within, get_or_from_slice_get}

module _ {P : Type 0} where
  none_of : (n : ℕ) (xs : List P) → xs ≡ [] → take n xs ++ drop (suc n) xs ≡ []
  none_of zero [] e = refl
  none_of (suc n) [] e = refl
  none_of n (x ∷ xs) e = absurd (omega (arith, ap length e))

  pub last_taken : (xs ys : List P) (r : Option P) (n : ℕ) → n ≡ length xs - 1 → r ≡ slice_get xs n → ys ≡ take n xs ++ drop (suc n) xs → TakesLast (λ (p : P). p) xs r ys
  last_taken [] ys None n e at rest = (refl, rest ∙ none_of n [] refl)
  last_taken (x ∷ xs) ys None n e at rest = absurd (let i : None ≡ Some _ = at ∙ slice_get-get_or (x ∷ xs) n x (omega (arith, e)) in cc)
  last_taken xs ys (Some p) n e at rest =
      let inside : n < length xs = slice_get_within xs n p (sym at) in
      let end : drop (suc n) xs ≡ [] = drop_all (suc n) xs (omega (arith, e)) in
      let here = get_or_from_slice_get xs n p p (sym at) in
      let front : ys ≡ take n xs = rest ∙ ap (λ zs. take n xs ++ zs) end ∙ append-nil (take n xs) in
      sym (take-append-drop n xs) ∙ ap (λ zs. take n xs ++ zs) (drop-cons xs n p inside ∙ ap (λ q. q ∷ drop (suc n) xs) here ∙ ap (λ zs. p ∷ zs) end) ∙ ap (λ zs. zs ++ p ∷ []) (sym front)

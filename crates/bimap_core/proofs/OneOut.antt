-- Ascending lists, and one from which an element was removed.
use Rattle.std.proofs.Common.{◌≡◌, ◌≢◌, ◌↔◌, List, ◌∷◌, ◌++◌, get_or, sym, subst, Contains}
use Rattle.std.specs.List.{AllPairs}
use Rattle.bimap_index.specs.SameLists.{same_ascending}
use Rattle.bimap_core.proofs.Permuted.{without_it, with_it, apart_left, all_without}

module _ {X : Type 0} (Below : X → X → Type 0) (strict : (x y : X) → Below x y → Below y x → ⊥) where
  distinct : (xs : List X) → AllPairs Below xs → AllPairs (λ p q. p ≢ q) xs
  distinct xs up i j d before inside e =
      let x = get_or xs i d in
      let itself : Below x x = subst (Below x) (sym e) (up i j d before inside) in
      strict x x itself itself

  -- An ascending list that contains all other elements is the list without the one element.
  pub one_out : (a : List X) (x : X) (b ys : List X) → AllPairs Below (a ++ x ∷ b) → AllPairs Below ys → ((q : X) → Contains ys q ↔ (Contains (a ++ x ∷ b) q × (q ≢ x))) → ys ≡ a ++ b
  one_out a x b ys up up' others =
      same_ascending Below strict ys (a ++ b) up' (all_without Below a x b up) (λ q. (
        λ c. let w = (others q).0 c in without_it a b x q w.0 w.1,
        λ c. (others q).1 (with_it a b x q c, apart_left a x b (distinct (a ++ x ∷ b) up) q c),
      ))

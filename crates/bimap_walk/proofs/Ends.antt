-- What is true of each element of a list, or of any two, after the first or the last element is removed.
use Rattle.std.proofs.Common.{◌≡◌, suc, ◌+◌, List, [], ◌∷◌, ◌++◌, length, get_or, length-append, subst, arith}
use Rattle.std.specs.List.{All, AllPairs}
use Rattle.std.proofs.Math.ListN.{get_or-append}
use Rattle.std.proofs.Math.Seq.{get_or-append_seam}

module _ {X : Type 0} (old : List X) (x : X) (xs : List X) where
  module _ (e : old ≡ x ∷ xs) where
    module _ (P : X → Type 0) (all : All P old) where
      each : All P (x ∷ xs)
      each = subst (All P) e all

      pub All-first : P x
      All-first = each 0 x (omega arith)

      pub All-behind : All P xs
      All-behind k d l = each (suc k) d (omega (arith, l))

    module _ (R : X → X → Type 0) (all : AllPairs R old) where
      each_two : AllPairs R (x ∷ xs)
      each_two = subst (AllPairs R) e all

      pub AllPairs-first : All (R x) xs
      AllPairs-first k d l = each_two 0 (suc k) d (omega arith) (omega (arith, l))

  longer : length (xs ++ x ∷ []) ≡ length xs + 1
  longer = length-append xs (x ∷ [])

  module _ (e : old ≡ xs ++ x ∷ []) where
    module _ (P : X → Type 0) (all : All P old) where
      each_one : All P (xs ++ x ∷ [])
      each_one = subst (All P) e all

      pub All-last : P x
      All-last = subst P (get_or-append_seam xs x [] x) (each_one (length xs) x (omega (arith, longer)))

      pub All-before : All P xs
      All-before k d l = subst P (get_or-append xs (x ∷ []) d k l) (each_one k d (omega (arith, longer, l)))

    module _ (R : X → X → Type 0) (all : AllPairs R old) where
      each_pair : AllPairs R (xs ++ x ∷ [])
      each_pair = subst (AllPairs R) e all

      pub AllPairs-last : All (λ y. R y x) xs
      AllPairs-last k d l =
          subst (λ y. R y x) (get_or-append xs (x ∷ []) d k l)
          (subst (R (get_or (xs ++ x ∷ []) k d)) (get_or-append_seam xs x [] d) (each_pair k (length xs) d l (omega (arith, longer))))

-- In ascending order, the pairs from a key on are the pairs from its rank on.
use Rattle.std.proofs.Common.{◌≡◌, ◌<◌, ◌≤◌, ◌∙◌, ℕ, zero, suc, Bool, true, false, ◌&&◌, Some, List, [], ◌∷◌, length, drop, slice_get, get_or, refl, ap, subst, inl, inr, arith}
use Rattle.std.proofs.Math.Nat.{eq-or-lt_of_le}
use Rattle.std.proofs.lemmas.Cmp.{tied_itself}
use Rattle.std.proofs.lemmas.Option.{slice_get_within, get_or_from_slice_get}
use Rattle.std.specs.Cmp.{IsTotalOrder}
use Rattle.std.specs.List.{filter, AllPairs}
use Rattle.std.specs.Ordering.{is_ge, ordering_reverse}
use Rattle.std.specs.declared.cmp.Ordering.{Ordering}
use Rattle.std.specs.declared.cmp.Ordering.TheVariants.{Less}

-- What a test finds from a place on alone is what stands from there on.
from_place : {P : Type 0} (test : P → Bool) (pairs : List P) (k : ℕ) → ((i : ℕ) (d : P) → i < k → i < length pairs → test (get_or pairs i d) ≡ false) → ((i : ℕ) (d : P) → k ≤ i → i < length pairs → test (get_or pairs i d) ≡ true) → filter test pairs ≡ drop k pairs
from_place test [] zero below above = refl
from_place test [] (suc k) below above = refl
from_place test (q ∷ pairs) zero below above =
    let t : test q ≡ true = above 0 q (omega arith) (omega arith) in
    rw t (ap (λ qs. q ∷ qs) (from_place test pairs 0 (λ i d l m. absurd (omega (arith, l))) (λ i d l m. above (suc i) d (omega arith) (omega (arith, m)))))
from_place test (q ∷ pairs) (suc k) below above =
    let t : test q ≡ false = below 0 q (omega arith) (omega arith) in
    rw t (from_place test pairs k (λ i d l m. below (suc i) d (omega (arith, l)) (omega (arith, m))) (λ i d l m. above (suc i) d (omega (arith, l)) (omega (arith, m))))

module _ {P K : Type 0} (key : P → K) (order : K → K → Ordering) (total : IsTotalOrder order) where
  -- The pairs whose key is at least that of a pair are the pairs from its rank on.
  pub from_rank : (pairs : List P) (rank : ℕ) (p : P) → AllPairs (λ q r. order (key q) (key r) ≡ Less) pairs → slice_get pairs rank ≡ Some p → filter (λ q. is_ge (order (key q) (key p)) && true) pairs ≡ drop rank pairs
  from_rank pairs rank p ascending at =
      let lt = slice_get_within pairs rank p at in
      let is : (d : P) → get_or pairs rank d ≡ p = λ d. get_or_from_slice_get pairs rank p d at in
      from_place (λ q. is_ge (order (key q) (key p)) && true) pairs rank
      (λ i d l m. ap (λ o. is_ge o && true) (subst (λ z. order (key (get_or pairs i d)) (key z) ≡ Less) (is d) (ascending i rank d l lt)))
      (λ i d l m. elim (eq-or-lt_of_le l) [
        | inl e ↦ ap (λ o. is_ge o && true) (subst (λ k. order (key (get_or pairs k d)) (key p) ≡ order (key p) (key p)) e (ap (λ z. order (key z) (key p)) (is d)) ∙ tied_itself total (key p))
        | inr k ↦ ap (λ o. is_ge o && true) (total.antisymm (key (get_or pairs i d)) (key p) ∙ ap ordering_reverse (subst (λ z. order (key z) (key (get_or pairs i d)) ≡ Less) (is d) (ascending rank i d k m)))
      ])

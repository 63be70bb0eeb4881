-- How many keys of a list of places are below what is looked up.
use Rattle.std.proofs.Common.{◌≡◌, ℕ, ◌+◌, ◌∙◌, List, [], ◌∷◌, Option, Some, None, zero-add, refl, sym, ap}
use Rattle.std.specs.List.{count_by}
use Rattle.std.specs.Option.{option_map}
use Rattle.std.specs.Ordering.{is_lt}
use Rattle.std.specs.Prelude.{cond}
use Rattle.std.specs.declared.cmp.Ordering.{Ordering}
use Rattle.std.proofs.lemmas.List.Sums.{sum_by-cons}
use Rattle.bimap_base.specs.Keyed.{standing}
use Rattle.bimap_base.specs.PairsAt.{pairs_at}
use Rattle.bimap_base.specs.Slots.{pair_at}
use Rattle.bimap_tree.specs.Order.{count_below}

module _ {P K Q : Type 0} (key : P → K) (to : K → Q → Ordering) (slots : List (Option P)) (query : Q) where
  -- The number of places below is the number of pairs below.
  pub count_pairs : (places : List ℕ) → count_below (λ p. standing to (option_map key (pair_at slots p)) (Some query)) places ≡ count_by (λ p. is_lt (to (key p) query)) (pairs_at slots places)
  count_pairs [] = refl
  count_pairs (x ∷ xs) = by (pair_at slots x) refl (count_pairs xs)
    where
      by : (o : Option P) → pair_at slots x ≡ o → count_below (λ p. standing to (option_map key (pair_at slots p)) (Some query)) xs ≡ count_by (λ p. is_lt (to (key p) query)) (pairs_at slots xs)
          → count_below (λ p. standing to (option_map key (pair_at slots p)) (Some query)) (x ∷ xs) ≡ count_by (λ p. is_lt (to (key p) query)) (pairs_at slots (x ∷ xs))
      by None e rest = rw e (zero-add _ ∙ rest)
      by (Some p) e rest = rw e (ap (λ n. cond (is_lt (to (key p) query)) 1 0 + n) rest ∙ sym (sum_by-cons (λ y. cond (is_lt (to (key y) query)) 1 0) p (pairs_at slots xs)))

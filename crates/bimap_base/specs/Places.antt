-- The pairs of a store, and the place of a key.
use Rattle.std.specs.Prelude.{◌≡◌, ℕ, ◌-◌, Bool, true, false, List, [], ◌∷◌, ◌++◌, length, map, replicate, Option, None, Some, IfSome, IsSomeAnd}
use Rattle.bimap_base.specs.Slots.{pair_at}

module _ {P : Type 0} where
  -- The pairs of a store, in the order of their places.
  abbrev pub pairs_in : List (Option P) → List P
  pairs_in [] = []
  pairs_in (None ∷ slots) = pairs_in slots
  pairs_in (Some pair ∷ slots) = pair ∷ pairs_in slots

  -- A store with this number of places. Its first places have the pairs, in this order.
  abbrev pub compacted : List P → ℕ → List (Option P)
  compacted pairs places = map Some pairs ++ replicate (places - length pairs) None

-- If a place was found, it has a pair whose key is equal to the query. No other place has such a pair.
pub record IsFoundAt {P K Q : Type 0} (key : P → K) (same : K → Q → Bool) (slots : List (Option P)) (k : Q) (found : Option ℕ) : Type 0 where
  pub here : IfSome found (λ place. IsSomeAnd (pair_at slots place) (λ p. same (key p) k ≡ true))
  pub elsewhere : (place : ℕ) (p : P) → (found ≡ Some place → ⊥) → pair_at slots place ≡ Some p → same (key p) k ≡ false

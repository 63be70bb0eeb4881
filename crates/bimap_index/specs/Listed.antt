-- What an index is asked about the keys of places, and what it returns.
-- A side is a function from places to keys.
-- A place without a pair has no key.
use Rattle.std.specs.Prelude.{◌≡◌, ℕ, Bool, true, false, List, Option, Some, None, IfSome, IsSomeAnd}
use Rattle.bimap_base.specs.Slots.{pair_at}
use Rattle.bimap_base.specs.Places.{pairs_in, compacted}

module _ {K : Type 0} where
  -- If a place is returned, it has a key that passes the test. No other place has such a key.
  pub record IsFound (key_at : ℕ → Option K) (passes : K → Bool) (found : Option ℕ) : Type 0 where
    pub here : IfSome found (λ place. IsSomeAnd (key_at place) (λ k. passes k ≡ true))
    pub elsewhere : (place : ℕ) (k : K) → (found ≡ Some place → ⊥) → key_at place ≡ Some k → passes k ≡ false

  -- The same, where the test is whether a key is the one asked for.
  abbrev pub IsFoundBy : {Q : Type 0} → (ℕ → Option K) → (K → Q → Bool) → Q → Option ℕ → Type 0
  IsFoundBy key_at same key = IsFound key_at (λ k. same k key)

  -- No other place has an equal key.
  abbrev pub IsAbsentElsewhere : (ℕ → Option K) → (K → K → Bool) → K → ℕ → Type 0
  IsAbsentElsewhere key_at same key place =
      (other : ℕ) (k : K) → (other ≡ place → ⊥) → key_at other ≡ Some k → same k key ≡ false

  -- The side `f` has no key at this place. At all other places `f` and `g` are the same.
  pub record IsWithout (f g : ℕ → Option K) (place : ℕ) : Type 0 where
    pub free : f place ≡ None
    pub others : (q : ℕ) → (q ≡ place → ⊥) → g q ≡ f q

  -- Both have a key and the keys are equal, or both have none.
  abbrev pub IsAlike : (K → K → Bool) → Option K → Option K → Type 0
  IsAlike same None None = Unit {0}
  IsAlike same None (Some l) = ⊥
  IsAlike same (Some k) None = ⊥
  IsAlike same (Some k) (Some l) = same k l ≡ true

  -- The place may be listed: it is not listed yet, it has this key, and no other place has an equal key.
  pub record MayLink {X : Type 0} (IsListing : X → (ℕ → Option K) → Type 0) (same : K → K → Bool) (index : X) (g : ℕ → Option K) (place : ℕ) (key : K) : Type 0 where
    pub f : ℕ → Option K
    pub listing : IsListing index f
    pub without : IsWithout f g place
    pub live : g place ≡ Some key
    pub absent : IsAbsentElsewhere g same key place

  -- The keys of `g` are those of `f`, moved to the first places in the order of their places.
  -- The compacted side has this number of places.
  pub record IsCompactedSide (f g : ℕ → Option K) (places : ℕ) : Type 0 where
    pub keys : List (Option K)
    pub before : (place : ℕ) → f place ≡ pair_at keys place
    pub after : (place : ℕ) → g place ≡ pair_at (compacted (pairs_in keys) places) place

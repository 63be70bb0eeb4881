-- Places in the order of their keys.
use Rattle.std.specs.Prelude.{◌≡◌, ◌⊎◌, ◌↔◌, ℕ, ◌<◌, List, length, Option, Some, None, IsSome, IsTrue, slice_index}
use Rattle.std.specs.List.{Contains}
use Rattle.std.specs.Ordering.{is_le}
use Rattle.std.specs.declared.cmp.Ordering.{Ordering}
use Rattle.std.specs.declared.cmp.Ordering.TheVariants.{Less, Greater}

module _ {K : Type 0} where
  module _ {Q : Type 0} where
    -- How a key compares with another key, or with a query. If either is missing, the result is `Greater`.
    abbrev pub standing : (K → Q → Ordering) → Option K → Option Q → Ordering
    standing order first None = Greater
    standing order None (Some key) = Greater
    standing order (Some k) (Some key) = order k key

    -- If one key is below another key, and the other key is not above a query, then the first key is below the query.
    abbrev pub Follows : (K → K → Ordering) → (K → Q → Ordering) → Type 0
    Follows order to = (q : Q) (x y : K) → order x y ≡ Less → IsTrue (is_le (to y q)) → to x q ≡ Less

  -- Each place of the list has a key, and the keys are in strictly ascending order.
  pub record Ascends (key_at : ℕ → Option K) (order : K → K → Ordering) (places : List ℕ) : Type 0 where
    pub live : (i : ℕ) → i < length places → IsSome (key_at (slice_index places i))
    pub rises : (i j : ℕ) (k l : K) → i < j → j < length places → key_at (slice_index places i) ≡ Some k
        → key_at (slice_index places j) ≡ Some l → order k l ≡ Less

-- The new list contains the old places and this place, and no other.
abbrev pub Adds : List ℕ → ℕ → List ℕ → Type 0
Adds old place new = (p : ℕ) → Contains new p ↔ ((p ≡ place) ⊎ Contains old p)

-- The new list contains the old places except this place.
abbrev pub Drops : List ℕ → ℕ → List ℕ → Type 0
Drops old place new = (p : ℕ) → Contains new p ↔ (Contains old p × (p ≡ place → ⊥))

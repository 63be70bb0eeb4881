-- Which ranks of an index pass a test.
use Rattle.std.specs.Prelude.{◌≡◌, ℕ, ◌<◌, ◌≤◌, Bool, true, false, List, length, Option, Some, slice_get}

module _ {K : Type 0} where
  -- The keys of the ranks below this rank fail the test. The keys from this rank on pass it.
  pub record IsCut (test : K → Bool) (key_at : ℕ → Option K) (places : List ℕ) (rank : ℕ) : Type 0 where
    pub within : rank ≤ length places
    pub before : (i p : ℕ) (k : K) → i < rank → slice_get places i ≡ Some p → key_at p ≡ Some k → test k ≡ false
    pub after : (i p : ℕ) (k : K) → rank ≤ i → slice_get places i ≡ Some p → key_at p ≡ Some k → test k ≡ true

  -- The keys of the ranks from `front` up to `back`, without `back`, pass the test. No other key passes it.
  pub record IsSpan (test : K → Bool) (key_at : ℕ → Option K) (places : List ℕ) (front back : ℕ) : Type 0 where
    pub before : (i p : ℕ) (k : K) → i < front → slice_get places i ≡ Some p → key_at p ≡ Some k → test k ≡ false
    pub inside : (i p : ℕ) (k : K) → front ≤ i → i < back → slice_get places i ≡ Some p → key_at p ≡ Some k → test k ≡ true
    pub after : (i p : ℕ) (k : K) → back ≤ i → slice_get places i ≡ Some p → key_at p ≡ Some k → test k ≡ false

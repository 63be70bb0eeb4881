-- The ranks of places.
use Rattle.std.specs.Prelude.{◌≡◌, ℕ, ◌<◌, ◌↔◌, List, Some, slice_get}
use Rattle.std.specs.List.{AllPairs, AllZip, Contains}

-- The rank of a place is its index among the places in ascending order. The second list has the rank of each place of the
-- first list, in the same order.
pub record AreRanks (places ranks : List ℕ) : Type 0 where
  pub sorted : List ℕ
  pub ascends : AllPairs (λ a b. a < b) sorted
  pub same : (p : ℕ) → Contains sorted p ↔ Contains places p
  pub stand : AllZip (λ p r. slice_get sorted r ≡ Some p) places ranks

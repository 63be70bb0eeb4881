-- When an index in insertion order lists a side.
use Rattle.std.specs.Prelude.{◌≢◌, ◌↔◌, ℕ, List, Option, IsSome}
use Rattle.std.specs.List.{AllPairs, Contains}

-- An index lists the side. The list contains exactly the places that have a key, each once.
pub record ListsByInsertion {X K : Type 0} (IsListing : X → (ℕ → Option K) → Type 0) (index : X) (places : List ℕ) (key_at : ℕ → Option K) : Type 0 where
  pub found : IsListing index key_at
  pub lists : (place : ℕ) → Contains places place ↔ IsSome (key_at place)
  pub distinct : AllPairs (λ a b. a ≢ b) places

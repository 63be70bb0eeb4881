-- When an ordered index lists a side.
use Rattle.std.specs.Prelude.{ℕ, List, Option, IsSome}
use Rattle.std.specs.List.{Contains}
use Rattle.std.specs.declared.cmp.Ordering.{Ordering}
use Rattle.bimap_base.specs.Keyed.{Ascends}

-- The list contains exactly the places that have a key. The keys ascend.
pub record ListsByOrder {K : Type 0} (order : K → K → Ordering) (places : List ℕ) (key_at : ℕ → Option K) : Type 0 where
  pub up : Ascends key_at order places
  pub lists : (place : ℕ) → IsSome (key_at place) → Contains places place

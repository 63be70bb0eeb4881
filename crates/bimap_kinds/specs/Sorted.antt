-- The pairs of a map in the order of their rights.
use Rattle.std.specs.Prelude.{◌≡◌, List, length}
use Rattle.std.specs.List.{AllPairs, Contains}
use Rattle.std.specs.declared.cmp.Ordering.{Ordering}
use Rattle.std.specs.declared.cmp.Ordering.TheVariants.{Less}
use Rattle.bimap_base.specs.Sets.{IsSameSet}

-- The second list contains the pairs of the first list, each once, in ascending order of their rights.
pub record IsByRight {L R : Type 0} (order : R → R → Ordering) (pairs sorted : List (L × R)) : Type 0 where
  pub same : IsSameSet (Contains pairs) (Contains sorted)
  pub ascends : AllPairs (λ p q. order p.1 q.1 ≡ Less) sorted
  pub count : length sorted ≡ length pairs

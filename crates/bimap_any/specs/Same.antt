-- When two bimaps are equal, and how they compare. Each is given by its pairs.
use Rattle.std.specs.Prelude.{◌≡◌, ◌&&◌, ◌==◌, Bool, true, List, length, Contains}
use Rattle.std.specs.List.{list_any, list_all}
use Rattle.std.specs.Ordering.{ordering_then}
use Rattle.std.specs.Cmp.Lexicographic.{slice_cmp}
use Rattle.std.specs.declared.cmp.Ordering.{Ordering}

module _ {L R : Type 0} (same_left : L → L → Bool) (same_right : R → R → Bool) where
  -- The two pairs are equal on both sides.
  abbrev pub pair_eq : L × R → L × R → Bool
  pair_eq p q = same_left p.0 q.0 && same_right p.1 q.1

  -- Some member of S is equal to the pair on both sides.
  abbrev pub HasEqual : (L × R → Type 0) → L × R → Type 0
  HasEqual S p = (q : L × R) × S q × (pair_eq p q ≡ true)

  -- The lists have the same length. For each pair of the first list, the second list has a pair that is equal on both sides.
  abbrev pub IsSame : List (L × R) → List (L × R) → Type 0
  IsSame xs ys = (length xs ≡ length ys) × ((p : L × R) → Contains xs p → HasEqual (Contains ys) p)

  -- Whether `IsSame` is true of the two lists.
  abbrev pub same : List (L × R) → List (L × R) → Bool
  same xs ys = (length xs == length ys) && list_all (λ p. list_any (pair_eq p) ys) xs

module _ {L R : Type 0} (order_left : L → L → Ordering) (order_right : R → R → Ordering) where
  -- How two pairs compare: by their lefts, and by their rights if the lefts are equal.
  abbrev pub pair_cmp : L × R → L × R → Ordering
  pair_cmp p q = ordering_then (order_left p.0 q.0) (order_right p.1 q.1)

  -- How two lists compare lexicographically. A list is less than a longer list that begins with it.
  abbrev pub lexicographic : List (L × R) → List (L × R) → Ordering
  lexicographic xs ys = slice_cmp pair_cmp xs ys

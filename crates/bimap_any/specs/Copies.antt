-- What a copy of a bimap contains. Each bimap is given by its pairs. `is_clone_left l m` says that `m` may be a clone of `l`.
use Rattle.std.specs.Prelude.{◌≡◌, Bool, true, List, Contains}
use Rattle.std.specs.List.{AllZip}
use Rattle.bimap_base.specs.Clones.{IsPairClone}
use Rattle.bimap_base.specs.Sets.{IsSameSet}
use Rattle.bimap_any.specs.Same.{IsSame}

module _ {L R : Type 0} (is_clone_left : L → L → Type 0) (is_clone_right : R → R → Type 0) where
  module _ (same_left : L → L → Bool) (same_right : R → R → Bool) where
    -- Each clone of a value in the pairs is equal to it.
    pub record AreClonesEqual (pairs : List (L × R)) : Type 0 where
      pub left : (p : L × R) → Contains pairs p → (l : L) → is_clone_left p.0 l → same_left p.0 l ≡ true
      pub right : (p : L × R) → Contains pairs p → (r : R) → is_clone_right p.1 r → same_right p.1 r ≡ true

    -- `new` has one clone of each pair of `old`, and no other pair. It is equal to `old`.
    pub record IsCopy (old new : List (L × R)) : Type 0 where
      pub clones : List (L × R)
      pub one_for_each : AllZip (IsPairClone is_clone_left is_clone_right) old clones
      pub held : IsSameSet (Contains clones) (Contains new)
      pub equal : IsSame same_left same_right old new

-- The clones of pairs. `is_clone_left l m` says that `m` may be a clone of `l`.
use Rattle.std.specs.Prelude.{List, Option, Some, None}
use Rattle.std.specs.List.{AllZip}

module _ {L R : Type 0} (is_clone_left : L → L → Type 0) (is_clone_right : R → R → Type 0) where
  -- `q` is a clone of `p` on both sides.
  abbrev pub IsPairClone : L × R → L × R → Type 0
  IsPairClone p q = is_clone_left p.0 q.0 × is_clone_right p.1 q.1

  -- Both places have a pair, and the second pair is a clone of the first. Or neither place has one.
  abbrev pub IsPlaceClone : Option (L × R) → Option (L × R) → Type 0
  IsPlaceClone None None = Unit {0}
  IsPlaceClone None (Some q) = ⊥
  IsPlaceClone (Some p) None = ⊥
  IsPlaceClone (Some p) (Some q) = IsPairClone p q

  -- There are as many places. Each place has a clone of the pair that is at the same place of the other store.
  abbrev pub AreCloned : List (Option (L × R)) → List (Option (L × R)) → Type 0
  AreCloned slots copy = AllZip IsPlaceClone slots copy

-- Which keys are in a range whose ends are queries.
use Rattle.std.specs.Prelude.{Bool, true, false, not, ◌&&◌}
use Rattle.std.specs.Ordering.{is_gt, is_ge}
use Rattle.std.specs.declared.cmp.Ordering.{Ordering}
use Rattle.std.specs.declared.ops.Bound.{Bound}
use Rattle.std.specs.declared.ops.Bound.TheVariants.{Included, Excluded, Unbounded}

module _ {K Q : Type 0} (order : K → Q → Ordering) where
  -- Whether a key is not before the start of a range. It is at the start or after it. If the start is excluded, it is after it.
  abbrev pub is_from_start : Bound Q → K → Bool
  is_from_start (Included q) k = is_ge (order k q)
  is_from_start (Excluded q) k = is_gt (order k q)
  is_from_start Unbounded k = true

  -- Whether a key is past the end of a range. It is after the end. If the end is excluded, it may also be at the end.
  abbrev pub is_past_end : Bound Q → K → Bool
  is_past_end (Included q) k = is_gt (order k q)
  is_past_end (Excluded q) k = is_ge (order k q)
  is_past_end Unbounded k = false

  -- Whether a key is between the two ends.
  abbrev pub is_between : Bound Q → Bound Q → K → Bool
  is_between start end k = is_from_start start k && not (is_past_end end k)

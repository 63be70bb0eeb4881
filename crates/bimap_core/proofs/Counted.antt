-- How many pairs a write at one place leaves.
use Rattle.std.proofs.Common.{◌≡◌, ℕ, ◌+◌, ◌<◌, List, length, Option, Some, None, is_some, ap, arith}
use Rattle.std.specs.Prelude.{slice_set, cond}
use Rattle.std.proofs.lemmas.List.Sums.{sum_by-set}
use Rattle.bimap_base.specs.Slots.{pair_at, pair_count}
use Rattle.bimap_base.specs.Places.{pairs_in}
use Rattle.bimap_core.proofs.Places.{live_within, length-pairs_in}

module _ {P : Type 0} (slots slots' : List (Option P)) (place : ℕ) where
  written : (o : Option P) → place < length slots → slots' ≡ slice_set slots place o → length (pairs_in slots') + cond (is_some (pair_at slots place)) 1 0 ≡ length (pairs_in slots) + cond (is_some o) 1 0
  written o inside now =
      let counted : pair_count (slice_set slots place o) + cond (is_some (pair_at slots place)) 1 0 ≡ pair_count slots + cond (is_some o) 1 0 = sum_by-set (λ o. cond (is_some o) 1 0) slots place o None inside in
      omega (arith, counted, length-pairs_in slots, length-pairs_in slots', ap pair_count now)

  -- A pair overwrites another one.
  pub count_over : (p new : P) → pair_at slots place ≡ Some p → slots' ≡ slice_set slots place (Some new) → length (pairs_in slots') ≡ length (pairs_in slots)
  count_over p new was now = omega (arith, rw was at written (Some new) (live_within slots place p was) now)

  -- A pair is put into a free place.
  pub count_new : (new : P) → place < length slots → pair_at slots place ≡ None → slots' ≡ slice_set slots place (Some new) → length (pairs_in slots') ≡ length (pairs_in slots) + 1
  count_new new inside free now = omega (arith, rw free at written (Some new) inside now)

  -- A pair is removed.
  pub count_out : (p : P) → pair_at slots place ≡ Some p → slots' ≡ slice_set slots place None → length (pairs_in slots') + 1 ≡ length (pairs_in slots)
  count_out p was now = omega (arith, rw was at written None (live_within slots place p was) now)

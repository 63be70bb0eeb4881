-- What a contract sees of a `Pairs`: the pair, or nothing, at each place.
use Rattle.std.specs.Prelude.{ℕ, List, Option, None, is_some, IsSome, count_by, slice_index_or, option_map}

module _ {P : Type 0} where
  -- The pair at a place, or `None` if it has none.
  abbrev pub pair_at : List (Option P) → ℕ → Option P
  pair_at slots place = slice_index_or slots place None

  -- The place has a pair.
  abbrev pub IsLive : List (Option P) → ℕ → Type 0
  IsLive slots place = IsSome (pair_at slots place)

  -- The number of places that have a pair.
  abbrev pub pair_count : List (Option P) → ℕ
  pair_count slots = count_by is_some slots

module _ {L R : Type 0} where
  -- The left of the pair at a place, or `None` if it has none.
  abbrev pub left_at : List (Option (L × R)) → ℕ → Option L
  left_at slots place = option_map (λ p. p.0) (pair_at slots place)

  -- The right of the pair at a place, or `None` if it has none.
  abbrev pub right_at : List (Option (L × R)) → ℕ → Option R
  right_at slots place = option_map (λ p. p.1) (pair_at slots place)

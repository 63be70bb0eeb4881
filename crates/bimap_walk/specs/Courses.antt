-- One step of an iterator through a store.
use Rattle.std.specs.Prelude.{◌≡◌, ℕ, List, [], Option, None, IfSome, IsSomeAnd, MatchOption, slice_set}
use Rattle.bimap_base.specs.Slots.{pair_at}

-- The step returns the place of the first or the last pair that was ahead.
-- The function `join` says which of the two.
-- It returns `None` if no pair was ahead.
pub record IsStep {P : Type 0} (join : P → List P → List P) (stands : List (Option P) → Type 0) (ahead : List (Option P) → List P) (slots : List (Option P)) (before : List P) (result : Option ℕ) : Type 0 where
  pub comes : MatchOption result ((before ≡ []) × (ahead slots ≡ [])) (λ place. IsSomeAnd (pair_at slots place) (λ p. before ≡ join p (ahead slots)))
  pub stands_on : stands slots
  -- The other pairs stay ahead if the store loses the returned one.
  pub may_lose : IfSome result (λ place. stands (slice_set slots place None) × (ahead (slice_set slots place None) ≡ ahead slots))

-- The places that a batch contains.
use Rattle.std.specs.Prelude.{◌≡◌, ℕ, ◌+◌, ◌<◌, ◌≤◌, List, Some, length, slice_get, slice_index}
use Rattle.bimap_tree.specs.declared.batch.Batch.{Batch}

-- The batch contains the place of this rank.
abbrev pub HasRank : Batch → ℕ → Type 0
HasRank batch rank = (batch.from ≤ rank) × (rank < batch.from + batch.count)

-- The places in the batch are those of the list at its ranks.
pub record IsBatch (places : List ℕ) (batch : Batch) : Type 0 where
  pub fits : batch.count < 128
  pub within : batch.from + batch.count ≤ length places
  pub reads : (k : ℕ) → k < batch.count → slice_get places (batch.from + k) ≡ Some (slice_index batch.places k)

-- A list of insertions that is undone from its end. An entry has the left of the insertion and the overwritten pairs.
use Rattle.std.specs.Prelude.{◌≡◌, ℕ, ◌+◌, ◌*◌, ◌≤◌, max, Bool, List, [], ◌∷◌, ◌++◌, length}
use Rattle.bimap_base.specs.Sets.{IsApart}
use Rattle.bimap_base.specs.Answer.{IsBoth}
use Rattle.bimap_base.specs.Holding.{Holding, IsFull}
use Rattle.bimap_base.specs.Undoing.{IsTrail}
use Rattle.bimap_base.specs.declared.overwritten.Overwritten.{Overwritten}

-- The last entry has two overwritten pairs.
pub record EndsInBoth {L R : Type 0} (entries : List (L × Overwritten L R)) : Type 0 where
  pub before : List (L × Overwritten L R)
  pub left : L
  pub answer : Overwritten L R
  pub last : entries ≡ before ++ (left, answer) ∷ []
  pub both : IsBoth answer

-- The room after these entries are undone.
-- It never shrinks.
-- It stays the same if it has a place for each pair of `old` and each entry.
-- If it grows, it is at most four or twice the number of these places, whichever is larger.
pub record IsRoomAfterUndoing {L R : Type 0} (old : Holding L R) (entries : List (L × Overwritten L R)) (new : Holding L R) : Type 0 where
  pub not_lower : old.room ≤ new.room
  pub at_most : new.room ≤ max old.room (max 4 (2 * (length old.pairs + length entries)))
  pub had_places : length old.pairs + length entries ≤ old.room → new.room ≡ old.room

module _ {L R : Type 0} (same_left : L → L → Bool) (same_right : R → R → Bool) where
  -- No set of the trail has more than `room` pairs. The last set may have more.
  abbrev pub IsWithin : (room : ℕ) (A : List (L × R)) (entries : List (L × Overwritten L R)) (S : List (L × R)) → IsTrail same_left same_right A entries S → Type 0
  IsWithin room A [] S trail = Unit {0}
  IsWithin room A ((left, answer) ∷ entries) S trail = (length A ≤ room) × IsWithin room trail.0 entries S trail.3

  -- The insertions led from `first` to `S`. No two pairs of `first` share a value.
  pub record Leads (first : List (L × R)) (entries : List (L × Overwritten L R)) (S : List (L × R)) : Type 0 where
    pub apart : IsApart same_left same_right first
    pub trail : IsTrail same_left same_right first entries S

  -- The same, and no set on the way has more than `room` pairs. The last set may have more.
  pub record LeadsWithin (room : ℕ) (first : List (L × R)) (entries : List (L × Overwritten L R)) (S : List (L × R)) : Type 0 where
    pub apart : IsApart same_left same_right first
    pub trail : IsTrail same_left same_right first entries S
    pub within : IsWithin room first entries S trail

  -- What is left if undoing a `Both` ran out of memory: the first entries, and the pairs to which they had led.
  pub record IsStopped (old : Holding L R) (entries rest : List (L × Overwritten L R)) (new : Holding L R) : Type 0 where
    pub undone : List (L × Overwritten L R)
    pub beginning : entries ≡ rest ++ undone
    pub both : EndsInBoth rest
    pub full : IsFull new
    pub led : (first : List (L × R)) → Leads first entries old.pairs → Leads first rest new.pairs

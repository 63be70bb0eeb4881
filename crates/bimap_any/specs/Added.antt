-- A holding with one more pair.
use Rattle.std.specs.Prelude.{◌≡◌, ◌↔◌, ◌⊎◌, ◌+◌, length, Contains}
use Rattle.bimap_base.specs.Holding.{Holding}

-- The new pairs are the old ones and this pair. The room is the same.
pub record IsAdded {L R : Type 0} (old : Holding L R) (pair : L × R) (new : Holding L R) : Type 0 where
  pub put : (q : L × R) → Contains new.pairs q ↔ ((q ≡ pair) ⊎ Contains old.pairs q)
  pub count : length new.pairs ≡ length old.pairs + 1
  pub room : new.room ≡ old.room

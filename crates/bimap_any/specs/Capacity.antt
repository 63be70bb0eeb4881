-- What the calls that change the capacity of a bimap return, and what the bimap has afterwards.
use Rattle.std.specs.Prelude.{◌≡◌, ℕ, ◌+◌, ◌≤◌, max, min, Result, IsOk, OnOk, OnErr, length}
use Rattle.bimap_base.specs.Holding.{Holding}
use Rattle.bimap_base.specs.declared.refusal.NoMemory.{NoMemory}

module _ {L R : Type 0} where
  -- The capacity becomes exactly large enough for `more` further pairs. A capacity that is large enough already stays, and the
  -- call succeeds.
  pub record IsReservation (old : Holding L R) (more : ℕ) (result : Result (Unit {0}) NoMemory) (new : Holding L R) : Type 0 where
    pub ok : OnOk result (new.room ≡ max old.room (length old.pairs + more))
    pub pairs : new.pairs ≡ old.pairs
    pub had_room : length old.pairs + more ≤ old.room → IsOk result
    pub unchanged : OnErr result (new ≡ old)

  -- The capacity after a shrink to `least`. It is large enough for all pairs, and is not more than before.
  abbrev pub shrunk_room : Holding L R → ℕ → ℕ
  shrunk_room old least = max (length old.pairs) (min least old.room)

  -- The capacity becomes exactly `shrunk_room`. If it is so already, the call succeeds.
  pub record IsShrink (old : Holding L R) (least : ℕ) (result : Result (Unit {0}) NoMemory) (new : Holding L R) : Type 0 where
    pub ok : OnOk result (new.room ≡ shrunk_room old least)
    pub pairs : new.pairs ≡ old.pairs
    pub was_so : shrunk_room old least ≡ old.room → IsOk result
    pub unchanged : OnErr result (new ≡ old)

-- What interning by a right returns, and what the bimap has afterwards. `IsInterning` says the same for a left.
use Rattle.std.specs.Prelude.{◌≡◌, ◌+◌, Bool, true, Result, length, Contains, IfOk, IfErr, IsOk, OnOk, OnErr}
use Rattle.bimap_base.specs.Sets.{SomeShares, IsWithPut, HasRight, LacksRight}
use Rattle.bimap_base.specs.Answer.{IsRefusal}
use Rattle.bimap_base.specs.Holding.{Holding, IsFull, IsRoomAfter}
use Rattle.bimap_base.specs.declared.refusal.NotInserted.{NotInserted}

-- The result is the left of the pair with an equal right. If there was no such pair, the given pair is inserted.
pub record IsInterningByRight {L R : Type 0} (same_left : L → L → Bool) (same_right : R → R → Bool) (old : Holding L R) (pair : L × R) (result : Result L (NotInserted L R)) (new : Holding L R) : Type 0 where
  pub answer : IfOk result (λ left. (r : R) × Contains new.pairs (left, r) × (same_right r pair.1 ≡ true))
  pub held : HasRight same_right (Contains old.pairs) pair.1 → IsOk result × (new ≡ old)
  pub given : LacksRight same_right (Contains old.pairs) pair.1 → IfOk result (λ left. left ≡ pair.0)
  pub put : LacksRight same_right (Contains old.pairs) pair.1 → OnOk result (IsWithPut same_left same_right (Contains old.pairs) pair (Contains new.pairs))
  pub count : LacksRight same_right (Contains old.pairs) pair.1 → OnOk result (length new.pairs ≡ length old.pairs + 1)
  pub kept : (p : L × R) → Contains old.pairs p → Contains new.pairs p
  pub refused : IfErr result (IsRefusal same_left same_right (Contains old.pairs) (IsFull old) pair)
  pub unchanged : OnErr result (new ≡ old)
  pub room : IsRoomAfter old (SomeShares same_left same_right (Contains old.pairs) pair) new

-- What a contract sees of a bimap. There is one record for each call, which says what the call returns and what the bimap has
-- afterwards. Each field of a record states one fact.
use Rattle.std.specs.Prelude.{◌≡◌, ◌↔◌, ℕ, ◌<◌, ◌≤◌, ◌+◌, ◌*◌, max, Bool, true, false, Option, Result, List, length, Contains, IfSome, IfNone, IfOk, IfErr, IsOk, OnOk, OnErr, MatchOption}
use Rattle.std.specs.Borrow.{Bor}
use denote.Param.Members.{Mut}
use Rattle.bimap_base.specs.Sets.{NoneShares, SomeShares, IsWithPut, HasLeft, LacksLeft}
use Rattle.bimap_base.specs.Answer.{IsAnswer, IsRefusal, IsAllowed, IsRefusalUnder, IsBoth, named_count}
use Rattle.bimap_base.specs.Kept.{IsKept, IsKeptInOrder}
use Rattle.bimap_base.specs.Undoing.{IsUndone}
use Rattle.bimap_base.specs.declared.overwritten.Overwritten.{Overwritten}
use Rattle.bimap_base.specs.declared.policy.Policy.{Policy}
use Rattle.bimap_base.specs.declared.refusal.NoRoom.{NoRoom}
use Rattle.bimap_base.specs.declared.refusal.NotInserted.{NotInserted}
use Rattle.bimap_base.specs.declared.refusal.NotInsertedWith.{NotInsertedWith}
use Rattle.bimap_base.specs.declared.refusal.UndoStopped.{UndoStopped}

-- The pairs of a bimap, each once, and its capacity, which contracts call `room`.
pub record Holding (L R : Type 0) : Type 0 where
  pub pairs : List (L × R)
  pub room : ℕ

-- The bimap has as many pairs as its capacity, so no place is free.
abbrev pub IsFull : {L R : Type 0} → Holding L R → Type 0
IsFull held = length held.pairs ≡ held.room

-- The capacity after a change. It is not less than before. It is at most twice the capacity of before, or at most 4. It stays if
-- a place was free, or if the new pair gets the place of an old one.
pub record IsRoomAfter {L R : Type 0} (old : Holding L R) (InPlace : Type 0) (new : Holding L R) : Type 0 where
  pub not_lower : old.room ≤ new.room
  pub at_most : new.room ≤ max 4 (2 * old.room)
  pub had_place : length old.pairs < old.room → new.room ≡ old.room
  pub in_place : InPlace → new.room ≡ old.room

-- A look-up returns the partner of a value in a pair that passes the test. If it returns `None`, no pair passes the test. `pair`
-- makes a pair of the value and its partner.
pub record IsPartner {L R X Y : Type 0} (pair : X → Y → L × R) (passes : L × R → Bool) (held : Holding L R) (result : Option (Bor Y)) : Type 0 where
  pub found : IfSome result (λ y. (x : X) × Contains held.pairs (pair x y.now) × (passes (pair x y.now) ≡ true))
  pub none : IfNone result ((p : L × R) → Contains held.pairs p → passes p ≡ false)

-- What the removal of the pair that passes the test returns, and what the bimap has afterwards.
pub record IsRemoval {L R : Type 0} (passes : L × R → Bool) (old : Holding L R) (result : Option (L × R)) (new : Holding L R) : Type 0 where
  pub removed : IfSome result (λ p. Contains old.pairs p × (passes p ≡ true))
  pub none : IfNone result ((p : L × R) → Contains old.pairs p → passes p ≡ false)
  pub without : (p : L × R) → Contains new.pairs p ↔ (Contains old.pairs p × (passes p ≡ false))
  pub count : MatchOption result (length new.pairs ≡ length old.pairs) (λ _. length new.pairs + 1 ≡ length old.pairs)
  pub room : new.room ≡ old.room

module _ {L R Q : Type 0} (same_left : L → Q → Bool) where
  -- What a look-up by left returns.
  abbrev pub IsFoundByLeft : Holding L R → Q → Option (Bor R) → Type 0
  IsFoundByLeft held left = IsPartner (λ l r. (l, r)) (λ p. same_left p.0 left) held

  -- What a removal by left returns, and what the bimap has afterwards.
  abbrev pub IsRemovalByLeft : Holding L R → Q → Option (L × R) → Holding L R → Type 0
  IsRemovalByLeft old left = IsRemoval (λ p. same_left p.0 left) old

module _ {L R Q : Type 0} (same_right : R → Q → Bool) where
  -- What a look-up by right returns.
  abbrev pub IsFoundByRight : Holding L R → Q → Option (Bor L) → Type 0
  IsFoundByRight held right = IsPartner (λ r l. (l, r)) (λ p. same_right p.1 right) held

  -- What a removal by right returns, and what the bimap has afterwards.
  abbrev pub IsRemovalByRight : Holding L R → Q → Option (L × R) → Holding L R → Type 0
  IsRemovalByRight old right = IsRemoval (λ p. same_right p.1 right) old

module _ {L R : Type 0} (same_left : L → L → Bool) (same_right : R → R → Bool) where
  -- What `insert` returns, and what the bimap has afterwards.
  pub record IsInsertion (old : Holding L R) (pair : L × R) (result : Result (Overwritten L R) (NoRoom L R)) (new : Holding L R) : Type 0 where
    pub answer : IfOk result (IsAnswer same_left same_right (Contains old.pairs) pair)
    pub put : OnOk result (IsWithPut same_left same_right (Contains old.pairs) pair (Contains new.pairs))
    pub count : IfOk result (λ answer. length new.pairs + named_count answer ≡ length old.pairs + 1)
    pub handed_back : IfErr result (λ e. (e.left, e.right) ≡ pair)
    pub none_struck : OnErr result (NoneShares same_left same_right (Contains old.pairs) pair)
    pub full : OnErr result (IsFull old)
    pub unchanged : OnErr result (new ≡ old)
    pub room : IsRoomAfter old (SomeShares same_left same_right (Contains old.pairs) pair) new

  -- What `insert_no_overwrite` returns, and what the bimap has afterwards.
  pub record IsInsertionWithoutOverwriting (old : Holding L R) (pair : L × R) (result : Result (Unit {0}) (NotInserted L R)) (new : Holding L R) : Type 0 where
    pub none_held : OnOk result (NoneShares same_left same_right (Contains old.pairs) pair)
    pub put : OnOk result (IsWithPut same_left same_right (Contains old.pairs) pair (Contains new.pairs))
    pub count : OnOk result (length new.pairs ≡ length old.pairs + 1)
    pub refused : IfErr result (IsRefusal same_left same_right (Contains old.pairs) (IsFull old) pair)
    pub unchanged : OnErr result (new ≡ old)
    pub room : IsRoomAfter old (SomeShares same_left same_right (Contains old.pairs) pair) new

  -- What `insert_with` returns, and what the bimap has afterwards.
  pub record IsInsertionUnder (old : Holding L R) (pair : L × R) (policy : Policy) (result : Result (Overwritten L R) (NotInsertedWith L R)) (new : Holding L R) : Type 0 where
    pub allowed : OnOk result (IsAllowed same_left same_right (Contains old.pairs) pair policy)
    pub answer : IfOk result (IsAnswer same_left same_right (Contains old.pairs) pair)
    pub put : OnOk result (IsWithPut same_left same_right (Contains old.pairs) pair (Contains new.pairs))
    pub count : IfOk result (λ answer. length new.pairs + named_count answer ≡ length old.pairs + 1)
    pub refused : IfErr result (IsRefusalUnder same_left same_right (Contains old.pairs) (IsFull old) pair policy)
    pub unchanged : OnErr result (new ≡ old)
    pub room : IsRoomAfter old (SomeShares same_left same_right (Contains old.pairs) pair) new

  -- The result is the right of the pair with an equal left. If there was no such pair, the given pair is inserted.
  pub record IsInterning (old : Holding L R) (pair : L × R) (result : Result R (NotInserted L R)) (new : Holding L R) : Type 0 where
    pub answer : IfOk result (λ right. (l : L) × Contains new.pairs (l, right) × (same_left l pair.0 ≡ true))
    pub held : HasLeft same_left (Contains old.pairs) pair.0 → IsOk result × (new ≡ old)
    pub given : LacksLeft same_left (Contains old.pairs) pair.0 → IfOk result (λ right. right ≡ pair.1)
    pub put : LacksLeft same_left (Contains old.pairs) pair.0 → OnOk result (IsWithPut same_left same_right (Contains old.pairs) pair (Contains new.pairs))
    pub count : LacksLeft same_left (Contains old.pairs) pair.0 → OnOk result (length new.pairs ≡ length old.pairs + 1)
    pub kept : (p : L × R) → Contains old.pairs p → Contains new.pairs p
    pub refused : IfErr result (IsRefusal same_left same_right (Contains old.pairs) (IsFull old) pair)
    pub unchanged : OnErr result (new ≡ old)
    pub room : IsRoomAfter old (SomeShares same_left same_right (Contains old.pairs) pair) new

  -- What `undo_insert` returns, and what the bimap has afterwards.
  pub record IsUndoing (old : Holding L R) (left : L) (answer : Overwritten L R) (result : Result (L × R) (UndoStopped L R)) (new : Holding L R) : Type 0 where
    pub taken : IfOk result (λ p. Contains old.pairs p × (same_left p.0 left ≡ true))
    pub undone : OnOk result (IsUndone same_left same_right (Contains old.pairs) left answer (Contains new.pairs))
    pub count : OnOk result (length new.pairs + 1 ≡ length old.pairs + named_count answer)
    pub handed_back : IfErr result (λ e. e.answer ≡ answer)
    pub both : OnErr result (IsBoth answer)
    pub full : OnErr result (IsFull old)
    pub unchanged : OnErr result (new ≡ old)
    pub room : IsRoomAfter old (IsBoth answer → ⊥) new

-- What the bimap has after `retain`, if the closure is called in some order.
pub record IsRetention {F L R : Type 0} (g : Mut F (Bor L × (Bor R × Unit {0})) Bool) (old : Holding L R) (f : F) (new : Holding L R) : Type 0 where
  pub kept : IsKept g f old.pairs new.pairs
  pub room : new.room ≡ old.room

-- What the bimap has after `retain`, if the closure is called in the order of the pairs.
pub record IsRetentionInOrder {F L R : Type 0} (g : Mut F (Bor L × (Bor R × Unit {0})) Bool) (old : Holding L R) (f : F) (new : Holding L R) : Type 0 where
  pub kept : IsKeptInOrder g f old.pairs new.pairs
  pub room : new.room ≡ old.room

-- A history: calls with their replies, in order, after a first set of pairs.
use Rattle.std.specs.Prelude.{◌≡◌, ◌↔◌, ◌⊎◌, ℕ, ◌≤◌, Bool, true, false, Some, None, List, ◌∷◌, ◌++◌, Contains}
use Rattle.bimap_base.specs.Sets.{shares, NoneShares, SomeShares, HasLeft, LacksLeft, HasRight, LacksRight}
use Rattle.bimap_base.specs.Answer.{IsAnswer, IsAllowed}
use Rattle.bimap_any.specs.Survivors.{Survives, IsPutToStay}
use Rattle.bimap_base.specs.Holding.{Holding}
use Rattle.bimap_base.specs.declared.policy.OnHeld.TheVariants.{Refuse}
use Rattle.bimap.specs.declared.call.Call.{Call}
use Rattle.bimap.specs.declared.call.Call.TheVariants.{Insert, InsertNoOverwrite, InsertWith, RemoveByLeft, RemoveByRight, ContainsLeft, ContainsRight, Retain, Clear}
use Rattle.bimap.specs.declared.call.Reply.{Reply}
use Rattle.bimap.specs.declared.call.Reply.TheVariants.{Inserted, NoRoom, Put, Occupied, LeftHeld, RightHeld, Removed, Holds, Done}
use Rattle.bimap_any.specs.Growth.{IsOutOfRoom, Outgrows}

-- A call with its reply.
abbrev pub Entry : (L R K : Type 0) → Type 0
Entry L R K = Call L R K × Reply L R

-- The entry inserts the pair `p`.
abbrev pub Puts : {L R K : Type 0} → Entry L R K → L × R → Type 0
Puts (Insert left right, Inserted answer) p = p ≡ (left, right)
Puts (InsertNoOverwrite left right, Put) p = p ≡ (left, right)
Puts (InsertWith left right policy, Inserted answer) p = p ≡ (left, right)
Puts (call, reply) p = ⊥

-- The reply is that the call ran out of memory.
abbrev pub IsNoRoom : {L R K : Type 0} → Entry L R K → Type 0
IsNoRoom (call, NoRoom l r) = Unit {0}
IsNoRoom (call, reply) = ⊥

module _ {L R K : Type 0} (same_left : L → L → Bool) (same_right : R → R → Bool) where
  -- The reply is right if `S` is the set of contained pairs before the call. A refusal gives back the pair of the call.
  abbrev pub IsRight : (L × R → Type 0) → Entry L R K → Type 0
  IsRight S (Insert left right, Inserted answer) = IsAnswer same_left same_right S (left, right) answer
  IsRight S (Insert left right, NoRoom l r) = (l ≡ left) × (r ≡ right) × NoneShares same_left same_right S (left, right)
  IsRight S (InsertNoOverwrite left right, Put) = NoneShares same_left same_right S (left, right)
  IsRight S (InsertNoOverwrite left right, Occupied l r) = (l ≡ left) × (r ≡ right) × SomeShares same_left same_right S (left, right)
  IsRight S (InsertNoOverwrite left right, NoRoom l r) = (l ≡ left) × (r ≡ right) × NoneShares same_left same_right S (left, right)
  IsRight S (InsertWith left right policy, Inserted answer) = IsAllowed same_left same_right S (left, right) policy × IsAnswer same_left same_right S (left, right) answer
  IsRight S (InsertWith left right policy, LeftHeld l r) = (l ≡ left) × (r ≡ right) × (policy.left ≡ Refuse) × HasLeft same_left S left
  IsRight S (InsertWith left right policy, RightHeld l r) =
      (l ≡ left) × (r ≡ right) × (policy.left ≡ Refuse → LacksLeft same_left S left) × (policy.right ≡ Refuse) × HasRight same_right S right
  IsRight S (InsertWith left right policy, NoRoom l r) = (l ≡ left) × (r ≡ right) × NoneShares same_left same_right S (left, right)
  IsRight S (RemoveByLeft left, Removed None) = LacksLeft same_left S left
  IsRight S (RemoveByLeft left, Removed (Some p)) = S p × (same_left p.0 left ≡ true)
  IsRight S (RemoveByRight right, Removed None) = LacksRight same_right S right
  IsRight S (RemoveByRight right, Removed (Some p)) = S p × (same_right p.1 right ≡ true)
  IsRight S (ContainsLeft left, Holds true) = HasLeft same_left S left
  IsRight S (ContainsLeft left, Holds false) = LacksLeft same_left S left
  IsRight S (ContainsRight right, Holds true) = HasRight same_right S right
  IsRight S (ContainsRight right, Holds false) = LacksRight same_right S right
  IsRight S (Retain k, Done) = Unit {0}
  IsRight S (Clear, Done) = Unit {0}
  IsRight S (call, reply) = ⊥

-- `Test k p b` means that the test returns `b` on the key `k` and the pair `p`.
module _ {L R K : Type 0} (same_left : L → L → Bool) (same_right : R → R → Bool) (Test : K → L × R → Bool → Type 0) where
  -- The entry touches the pair `p`: it overwrites the pair, removes it, or would do so if the pair were contained.
  abbrev pub Touches : Entry L R K → L × R → Type 0
  Touches (Insert left right, Inserted answer) p = shares same_left same_right p (left, right) ≡ true
  Touches (InsertNoOverwrite left right, Put) p = shares same_left same_right p (left, right) ≡ true
  Touches (InsertWith left right policy, Inserted answer) p = shares same_left same_right p (left, right) ≡ true
  Touches (RemoveByLeft left, reply) p = same_left p.0 left ≡ true
  Touches (RemoveByRight right, reply) p = same_right p.1 right ≡ true
  Touches (Retain k, reply) p = Test k p false
  Touches (Clear, reply) p = Unit {0}
  Touches (call, reply) p = ⊥

  -- Either `p` was in `S` and no entry touches it, or some entry inserts it and no later entry touches it.
  abbrev pub IsSurvivor : (L × R → Type 0) → List (Entry L R K) → L × R → Type 0
  IsSurvivor S history p = Survives Puts Touches S history p

  -- Each reply is right for the survivors of `S` and of the entries before it.
  abbrev pub IsLegal : (L × R → Type 0) → List (Entry L R K) → Type 0
  IsLegal S history =
      (before : List (Entry L R K)) (entry : Entry L R K) (later : List (Entry L R K)) →
      history ≡ before ++ entry ∷ later → IsRight same_left same_right (IsSurvivor S before) entry

  -- A call runs out of memory only if the map contains at least as many pairs as it had places at first.
  abbrev pub NeedsRoom : (L × R → Type 0) → ℕ → List (Entry L R K) → Type 0
  NeedsRoom S room history =
      (before : List (Entry L R K)) (entry : Entry L R K) (later : List (Entry L R K)) →
      history ≡ before ++ entry ∷ later → IsNoRoom entry → IsOutOfRoom same_left same_right (IsSurvivor S before) room

  -- The history leads from `old` to `new`.
  -- Its replies are right, and the contained pairs are the survivors.
  -- The room never shrinks.
  -- It stays the same unless the history outgrows it.
  pub record IsHistory (old : Holding L R) (history : List (Entry L R K)) (new : Holding L R) : Type 0 where
    pub legal : IsLegal (Contains old.pairs) history
    pub survivors : (p : L × R) → Contains new.pairs p ↔ IsSurvivor (Contains old.pairs) history p
    pub needs_room : NeedsRoom (Contains old.pairs) old.room history
    pub not_lower : old.room ≤ new.room
    pub room : (new.room ≡ old.room) ⊎ Outgrows same_left same_right Puts (IsSurvivor (Contains old.pairs)) history old.room new.room

  -- `p` is the pair of a successful insertion of the history, and no later call touches it.
  abbrev pub IsStanding : List (Entry L R K) → L × R → Type 0
  IsStanding history p = IsPutToStay Puts Touches history p

  -- The history began with no pair.
  -- Each reply is right for the pairs that stand before it.
  -- The contained pairs are those that stand in the end.
  pub record IsWholeHistory (history : List (Entry L R K)) (new : Holding L R) : Type 0 where
    pub legal : (before : List (Entry L R K)) (entry : Entry L R K) (later : List (Entry L R K)) →
        history ≡ before ++ entry ∷ later → IsRight same_left same_right (IsStanding before) entry
    pub held : (p : L × R) → Contains new.pairs p ↔ IsStanding history p

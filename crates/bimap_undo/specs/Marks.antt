-- The record of the changes of a map, and the sets of pairs for which its marks stand.
use Rattle.std.specs.Prelude.{◌≡◌, ◌↔◌, ℕ, ◌+◌, ◌≤◌, Bool, true, false, Result, List, [], ◌∷◌, ◌++◌, length, take, drop, Contains, IsTrue, IfOk, IfErr, OnOk, OnErr, MatchBool}
use Rattle.std.specs.Bool.{OnTrue}
use Rattle.bimap.specs.Sets.{IsApart, IsSameSet, SomeShares, IsWithPut, HasLeft, LacksLeft, HasRight}
use Rattle.bimap.specs.Holding.{Holding, IsRoomAfter}
use Rattle.bimap.specs.Undoing.{IsInserting}
use Rattle.bimap.specs.Exchange.{IsWithoutPair, IsExchanged, IsPartReplaced, IsPartKept}
use Rattle.bimap.specs.Answer.{IsAnswer, IsAllowed, named_count}
use Rattle.bimap.specs.Types.{Overwritten, Policy, Refuse, NotInsertedWith}
use Rattle.bimap.specs.declared.NotInsertedWith.TheVariants.{LeftHeld, RightHeld, Memory as MemoryWith}
use Rattle.bimap.specs.declared.NoMemory.{NoMemory}
use Rattle.bimap.specs.declared.NoRoom.{NoRoom}
use Rattle.bimap_undo.specs.declared.entry.Entry.{Entry}
use Rattle.bimap_undo.specs.declared.entry.Entry.TheVariants.{Inserted, LeftReplaced, RightReplaced, Removed}
use Rattle.bimap_undo.specs.declared.refusal.NotRecorded.{NotRecorded}
use Rattle.bimap_undo.specs.declared.refusal.NotRecorded.TheVariants.{Refused, Memory}

-- What a contract sees: the pairs and the room of the map, and the recorded changes. The latest change is the last one.
pub record Marked (L R : Type 0) : Type 0 where
  pub held : Holding L R
  pub entries : List (Entry L R)

-- A map with these recorded changes.
abbrev pub marked : {L R : Type 0} → Holding L R → List (Entry L R) → Marked L R
marked held entries = record { held = held; entries = entries }

module _ {L R : Type 0} (same_left : L → L → Bool) (same_right : R → R → Bool) where
  -- `B` is `A` after a replacement.
  -- The pair in `B` with an equal left took the place of the pair that `before` makes of it.
  pub record IsReplacing (A : List (L × R)) (left : L) (before : L × R → L × R) (B : List (L × R)) : Type 0 where
    pub pair : L × R
    pub by_left : same_left pair.0 left ≡ true
    pub exchanged : IsExchanged (Contains A) (before pair) pair (Contains B)

  -- The change of the entry leads from `A` to `B`.
  abbrev pub IsChange : List (L × R) → Entry L R → List (L × R) → Type 0
  IsChange A (Inserted left answer) B = IsInserting same_left same_right A left answer B
  IsChange A (LeftReplaced left old) B = IsReplacing A left (λ p. (old, p.1)) B
  IsChange A (RightReplaced left old) B = IsReplacing A left (λ p. (p.0, old)) B
  IsChange A (Removed left right) B = IsWithoutPair A (left, right) B

  -- The changes, one after another, lead from `A` to `S`.
  abbrev pub IsPath : List (L × R) → List (Entry L R) → List (L × R) → Type 0
  IsPath A [] S = IsSameSet (Contains A) (Contains S)
  IsPath A (entry ∷ entries) S =
      (B : List (L × R)) × IsApart same_left same_right B × IsChange A entry B × IsPath B entries S

  -- `A` is the set for which the mark stands. The changes after the mark lead from it to the contained pairs.
  pub record IsBefore (u : Marked L R) (mark : ℕ) (A : List (L × R)) : Type 0 where
    pub apart : IsApart same_left same_right A
    pub path : IsPath A (drop mark u.entries) u.held.pairs

  -- The marks up to `last` stand for the same sets, and the changes before `last` are the same.
  pub record KeepsMarks (old : Marked L R) (last : ℕ) (new : Marked L R) : Type 0 where
    pub sets : (mark : ℕ) → mark ≤ last → (A : List (L × R)) → IsBefore old mark A → IsBefore new mark A
    pub changes : take last new.entries ≡ take last old.entries

  -- Each mark stands for a set, and the room has a place for each pair of the set.
  abbrev pub HasMarks : Marked L R → Type 0
  HasMarks u = (mark : ℕ) → mark ≤ length u.entries → (A : List (L × R)) × IsBefore u mark A × (length A ≤ u.held.room)

  -- The newest change is the insertion of the pair, with the pairs that it overwrote.
  pub record IsInsertionLast (old : Marked L R) (pair : L × R) (new : Marked L R) : Type 0 where
    pub left : L
    pub answer : Overwritten L R
    pub by_left : same_left pair.0 left ≡ true
    pub is_answer : IsAnswer same_left same_right (Contains old.held.pairs) pair answer
    pub count : length new.held.pairs + named_count answer ≡ length old.held.pairs + 1
    pub entries : new.entries ≡ old.entries ++ Inserted left answer ∷ []

  -- What an insertion returns and leaves.
  pub record IsRecordedInsertion (old : Marked L R) (pair : L × R) (result : Result Bool (NoRoom L R)) (new : Marked L R) : Type 0 where
    pub overwrote : IfOk result (λ overwrote.
        IsTrue overwrote ↔ SomeShares same_left same_right (Contains old.held.pairs) pair)
    pub put : OnOk result (IsWithPut same_left same_right (Contains old.held.pairs) pair (Contains new.held.pairs))
    pub recorded : OnOk result (length new.entries ≡ length old.entries + 1)
    pub last : OnOk result (IsInsertionLast old pair new)
    pub kept : OnOk result (KeepsMarks old (length old.entries) new)
    pub room : IsRoomAfter old.held (SomeShares same_left same_right (Contains old.held.pairs) pair) new.held
    pub handed_back : IfErr result (λ e. (e.left, e.right) ≡ pair)
    pub unchanged : OnErr result (new ≡ old)

  -- Why an insertion under a policy was refused. The record may run out of memory too.
  abbrev pub IsRecordedRefusal : (L × R → Type 0) → L × R → Policy → NotInsertedWith L R → Type 0
  IsRecordedRefusal S new policy (LeftHeld l r) = ((l, r) ≡ new) × (policy.left ≡ Refuse) × HasLeft same_left S new.0
  IsRecordedRefusal S new policy (RightHeld l r) =
      ((l, r) ≡ new) × (policy.left ≡ Refuse → LacksLeft same_left S new.0) × (policy.right ≡ Refuse) × HasRight same_right S new.1
  IsRecordedRefusal S new policy (MemoryWith l r) = (l, r) ≡ new

  -- What an insertion under a policy returns and leaves.
  pub record IsRecordedInsertionUnder (old : Marked L R) (pair : L × R) (policy : Policy) (result : Result Bool (NotInsertedWith L R)) (new : Marked L R) : Type 0 where
    pub allowed : OnOk result (IsAllowed same_left same_right (Contains old.held.pairs) pair policy)
    pub overwrote : IfOk result (λ overwrote.
        IsTrue overwrote ↔ SomeShares same_left same_right (Contains old.held.pairs) pair)
    pub put : OnOk result (IsWithPut same_left same_right (Contains old.held.pairs) pair (Contains new.held.pairs))
    pub recorded : OnOk result (length new.entries ≡ length old.entries + 1)
    pub last : OnOk result (IsInsertionLast old pair new)
    pub kept : OnOk result (KeepsMarks old (length old.entries) new)
    pub room : IsRoomAfter old.held (SomeShares same_left same_right (Contains old.held.pairs) pair) new.held
    pub refused : IfErr result (IsRecordedRefusal (Contains old.held.pairs) pair policy)
    pub unchanged : OnErr result (new ≡ old)

  -- The following serves both sides.
  -- `part` is the side, `pair` makes a pair of a value of this side and one of the other side, and `entry` records the
  -- change.
  module _ {K M : Type 0} (part : L × R → K) (pair : K → M → L × R) (same : K → K → Bool) (entry : L → K → Entry L R) where
    -- Why a value was not replaced in a map with a record.
    abbrev pub IsNotRecorded : (L × R → Type 0) → K → K → NotRecorded K → Type 0
    IsNotRecorded S from to (Refused why) = IsPartKept part pair same S from to why
    IsNotRecorded S from to (Memory k) = k ≡ to

    -- The value was replaced, and this is the newest change.
    pub record IsReplacementLast (old : Marked L R) (from to : K) (new : Marked L R) : Type 0 where
      pub left : L
      pub taken : K
      pub replaced : IsPartReplaced part pair same (Contains old.held.pairs) from to taken
          (Contains new.held.pairs)
      pub change : IsChange old.held.pairs (entry left taken) new.held.pairs
      pub entries : new.entries ≡ old.entries ++ entry left taken ∷ []

    -- What a replacement returns and leaves.
    pub record IsRecordedReplacement (old : Marked L R) (from to : K) (result : Result (Unit {0}) (NotRecorded K)) (new : Marked L R) : Type 0 where
      pub last : OnOk result (IsReplacementLast old from to new)
      pub recorded : OnOk result (length new.entries ≡ length old.entries + 1)
      pub kept : OnOk result (KeepsMarks old (length old.entries) new)
      pub count : length new.held.pairs ≡ length old.held.pairs
      pub room : new.held.room ≡ old.held.room
      pub refused : IfErr result (IsNotRecorded (Contains old.held.pairs) from to)
      pub unchanged : OnErr result (new ≡ old)

  -- What a replacement of a left returns and leaves.
  abbrev pub IsRecordedReplacementOfLeft : Marked L R → L → L → Result (Unit {0}) (NotRecorded L) → Marked L R → Type 0
  IsRecordedReplacementOfLeft old from to result new =
      IsRecordedReplacement (λ p. p.0) (λ l r. (l, r)) same_left LeftReplaced old from to result new

  -- What a replacement of a right returns and leaves.
  abbrev pub IsRecordedReplacementOfRight : Marked L R → R → R → Result (Unit {0}) (NotRecorded R) → Marked L R → Type 0
  IsRecordedReplacementOfRight old from to result new =
      IsRecordedReplacement (λ p. p.1) (λ r l. (l, r)) same_right RightReplaced old from to result new

  -- What a removal by one side of a pair returns and leaves.
  pub record IsRecordedRemoval {K : Type 0} (part : L × R → K) (same : K → K → Bool) (old : Marked L R) (value : K) (result : Result Bool NoMemory) (new : Marked L R) : Type 0 where
    pub found : IfOk result (λ found.
        IsTrue found ↔ ((q : L × R) × Contains old.held.pairs q × (same (part q) value ≡ true)))
    pub without : OnOk result ((q : L × R) → Contains new.held.pairs q ↔ (Contains old.held.pairs q × (same (part q) value ≡ false)))
    pub recorded : IfOk result (λ found.
        MatchBool found (length new.entries ≡ length old.entries + 1) (new ≡ old))
    pub last : IfOk result (λ found. OnTrue found ((q : L × R) × Contains old.held.pairs q
        × (same (part q) value ≡ true) × (new.entries ≡ old.entries ++ Removed q.0 q.1 ∷ [])))
    pub kept : OnOk result (KeepsMarks old (length old.entries) new)
    pub count : IfOk result (λ found. OnTrue found (length new.held.pairs + 1 ≡ length old.held.pairs))
    pub room : new.held.room ≡ old.held.room
    pub refused : OnErr result ((q : L × R) × Contains old.held.pairs q × (same (part q) value ≡ true))
    pub unchanged : OnErr result (new ≡ old)

  -- What a removal by left returns and leaves.
  abbrev pub IsRecordedRemovalByLeft : Marked L R → L → Result Bool NoMemory → Marked L R → Type 0
  IsRecordedRemovalByLeft old left result new = IsRecordedRemoval (λ p. p.0) same_left old left result new

  -- What a removal by right returns and leaves.
  abbrev pub IsRecordedRemovalByRight : Marked L R → R → Result Bool NoMemory → Marked L R → Type 0
  IsRecordedRemovalByRight old right result new = IsRecordedRemoval (λ p. p.1) same_right old right result new

  -- The map contains the set for which the mark stood. This mark is now the last one.
  pub record IsReturn (old : Marked L R) (mark : ℕ) (new : Marked L R) : Type 0 where
    pub held : (A : List (L × R)) → IsBefore old mark A → IsSameSet (Contains A) (Contains new.held.pairs)
    pub kept : KeepsMarks old mark new
    pub recorded : length new.entries ≡ mark

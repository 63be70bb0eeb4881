-- What a call for C returns, writes and leaves, for all types of the sides.
use Rattle.std.specs.Prelude.{◌≡◌, ◌⊎◌, ◌↔◌, ◌≤◌, ℕ, Bool, List, [], IsTrue, Option, None, Some, Result, Ok, Err, MatchOption, nat_eq, count_by, if◌then◌else◌}
use Rattle.std.specs.Ordering.{is_lt}
use Rattle.std.specs.declared.cmp.Ordering.{Ordering}
use Rattle.bimap.specs.BTree.{IsByRight}
use Rattle.bimap.specs.Holding.{Holding}
use Rattle.bimap.specs.Capacity.{IsReservation, IsShrink}
use Rattle.bimap.specs.Moves.{IsMove}
use Rattle.bimap.specs.Types.{NoMemory, NotInserted, NotInsertedWith, OnHeld, Overwrite, Refuse}
use Rattle.bimap_base.specs.declared.refusal.NotInserted.TheVariants.{Occupied, Memory}
use Rattle.bimap_base.specs.declared.refusal.NotInsertedWith.TheVariants.{LeftHeld, RightHeld, Memory as MemoryWith}
use Rattle.bimap_c.specs.Kinds.{Kinds, MatchKind, MatchKinds, IsOfKind}
use Rattle.bimap_c.specs.declared.c_table.CTable.{CTable}

-- An out-parameter is written on status 0 alone.
abbrev pub IsWritten : {X : Type 0} → ℕ → X → X → Type 0
IsWritten status old new = (status ≡ 0 → ⊥) → new ≡ old

module _ {H : Type 0} (find : Option CTable → Option (Kinds H)) (old : Option CTable) (status : ℕ) (new : Option CTable) where
  -- What is true of a table of each kind. If the handle has no table of these sides, the status is 2. The table does not
  -- change.
  abbrev pub ReadsByKind : (H → Type 0) → (H → Type 0) → Type 0
  ReadsByKind ordered others = (new ≡ old) × MatchOption (find old) (status ≡ 2) (MatchKind ordered others others)

  -- What a call that changes nothing does, on a table of any kind.
  abbrev pub Reads : (H → Type 0) → Type 0
  Reads holds = ReadsByKind holds holds

  -- What such a call does if it needs an ordered table. For a table of another kind the status is 6.
  abbrev pub ReadsOrdered : (H → Type 0) → Type 0
  ReadsOrdered holds = ReadsByKind holds (λ _. status ≡ 6)

  -- What such a call does if it needs a first or last pair, as an ordered table has and one in insertion order. For a hashed
  -- table the status is 6.
  abbrev pub ReadsAtEnd : (H → Type 0) → Type 0
  ReadsAtEnd holds = (new ≡ old) × MatchOption (find old) (status ≡ 2) (MatchKind holds (λ _. status ≡ 6) holds)

  -- What is true of a table of each kind before and after. It stays of its kind. If the handle has no table of these sides,
  -- nothing changes.
  abbrev pub ChangesByKind : (H → H → Type 0) → (H → H → Type 0) → (H → H → Type 0) → Type 0
  ChangesByKind ordered hashed in_order =
      MatchOption (find old) ((status ≡ 2) × (new ≡ old)) (λ before. MatchOption (find new) ⊥ (MatchKinds ordered hashed in_order before))

  -- A table of this kind has no order that the call could use, and nothing changes.
  abbrev pub HasNoOrder : H → H → Type 0
  HasNoOrder before after = (status ≡ 6) × (new ≡ old)

  -- What a call that may change the table does, on a table of any kind.
  abbrev pub Changes : (H → H → Type 0) → Type 0
  Changes holds = ChangesByKind holds holds holds

  -- What such a call does if it needs a first or last pair, as an ordered table has and one in insertion order.
  abbrev pub ChangesAtEnd : (H → H → Type 0) → Type 0
  ChangesAtEnd holds = ChangesByKind holds HasNoOrder holds

  -- What such a call does if it needs a table in insertion order.
  abbrev pub ChangesInOrder : (H → H → Type 0) → Type 0
  ChangesInOrder holds = ChangesByKind HasNoOrder HasNoOrder holds

  -- What `new` does, by the number of the kind. If the handle had no table, it has one of this kind then, or there was no
  -- memory. If it had a table, or there is no such kind, nothing changes.
  pub record Makes (kind : ℕ) (holds : H → Type 0) : Type 0 where
    pub kinds : kind ≤ 2 → MatchOption old (((status ≡ 0) × MatchOption (find new) ⊥ (λ made. IsOfKind kind made holds)) ⊎ ((status ≡ 1) × (new ≡ None))) (λ _. (status ≡ 2) × (new ≡ old))
    pub others : (kind ≤ 2 → ⊥) → (status ≡ 3) × (new ≡ old)

-- What `free` does. If the handle had a table, it has none then.
abbrev pub Frees : Option CTable → ℕ → Option CTable → Type 0
Frees old status new = (new ≡ None) × MatchOption old (status ≡ 2) (λ _. status ≡ 0)

-- The status says whether the call was done or ran out of memory.
abbrev pub made : {X E : Type 0} → Result X E → ℕ
made (Ok x) = 0
made (Err e) = 1

-- The pair was inserted, or a value is contained, or there was no memory.
abbrev pub inserted : {L R : Type 0} → Result (Unit {0}) (NotInserted L R) → ℕ
inserted (Ok x) = 0
inserted (Err (Occupied l r)) = 3
inserted (Err (Memory l r)) = 1

-- The status for an insertion that the policy or the memory refused.
abbrev pub refused : {L R : Type 0} → NotInsertedWith L R → ℕ
refused (LeftHeld l r) = 3
refused (RightHeld l r) = 3
refused (MemoryWith l r) = 1

-- The pair was inserted, or it was refused for this reason.
abbrev pub inserted_with : {X L R : Type 0} → Result X (NotInsertedWith L R) → ℕ
inserted_with (Ok x) = 0
inserted_with (Err why) = refused why

-- The status says whether there is a value, and the out-parameter is the value.
abbrev pub Tells : {X : Type 0} → Option X → ℕ → X → Type 0
Tells None status out = status ≡ 5
Tells (Some x) status out = (status ≡ 0) × (out ≡ x)

-- The status says whether this is true.
abbrev pub Tests : Type 0 → ℕ → Type 0
Tests fact status = (answer : Bool) × (IsTrue answer ↔ fact) × (status ≡ (if answer then 0 else 5))

-- What `reserve` does. There is capacity for `more` further pairs, or there was no memory.
pub record Reserves {L R : Type 0} (old : Holding L R) (more status : ℕ) (new : Holding L R) : Type 0 where
  pub answer : Result (Unit {0}) NoMemory
  pub reserved : IsReservation old more answer new
  pub told : status ≡ made answer

-- What `shrink_to` does. A capacity above `least` becomes `least`, or the number of pairs if that is more. Or there was no memory.
pub record Shrinks {L R : Type 0} (old : Holding L R) (least status : ℕ) (new : Holding L R) : Type 0 where
  pub answer : Result (Unit {0}) NoMemory
  pub shrunk : IsShrink old least answer new
  pub told : status ≡ made answer

-- What `to_front` and `to_back` do. The pair that passes the test is moved as `Comes` says, or the status says that there is none.
pub record Moves {L R : Type 0} (passes : L × R → Bool) (Comes : List (L × R) → L × R → List (L × R) → Type 0) (old : Holding L R) (status : ℕ) (new : Holding L R) : Type 0 where
  pub answer : Bool
  pub moved : IsMove passes Comes old.pairs answer new.pairs
  pub room : new.room ≡ old.room
  pub told : status ≡ (if answer then 0 else 5)

-- `P` is true of the pairs in ascending order of their rights.
abbrev pub ByRight : {L R : Type 0} → (R → R → Ordering) → List (L × R) → (List (L × R) → Type 0) → Type 0
ByRight {L} {R} order pairs P = (sorted : List (L × R)) × IsByRight order pairs sorted × P sorted

-- What a rank says: how many of the pairs stand below.
abbrev pub IsRank : {P : Type 0} → (P → Ordering) → List P → ℕ → ℕ → Type 0
IsRank stands pairs status rank = (status ≡ 0) × (rank ≡ count_by (λ p. is_lt (stands p)) pairs)

-- What `clear` does. No pair is left, and the capacity stays.
abbrev pub Clears : {L R : Type 0} → Holding L R → ℕ → Holding L R → Type 0
Clears old status new = (status ≡ 0) × (new.pairs ≡ []) × (new.room ≡ old.room)

-- What a flag of C says about a side.
abbrev pub on_held : ℕ → OnHeld
on_held flag = if nat_eq flag 0 then Overwrite else Refuse

-- A flag of C is 0 or 1.
abbrev pub AreFlags : ℕ → ℕ → Type 0
AreFlags left right = (left ≤ 1) × (right ≤ 1)

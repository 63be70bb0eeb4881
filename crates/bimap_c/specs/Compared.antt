-- What a call for C says of two tables, and what the clone of a table is.
use Rattle.std.specs.Prelude.{◌≡◌, ◌⊎◌, ℕ, Bool, Option, None, List, MatchOption, Contains}
use Rattle.std.specs.List.{AllZip}
use Rattle.bimap.specs.Holding.{Holding}
use Rattle.bimap.specs.Same.{HasEqual}
use Rattle.bimap.specs.Types.{Neither}
use Rattle.bimap_base.specs.Clones.{IsPairClone}
use Rattle.bimap_c.specs.Bytes.{Kept}
use Rattle.bimap_c.specs.Kinds.{Kinds, MatchKinds, in_kind}
use Rattle.bimap_c.specs.declared.byte_string.ByteString.{ByteString}
use Rattle.bimap_c.specs.declared.c_table.CTable.{CTable}

-- Each pair of the first list equals a pair of the second list on both sides.
abbrev pub IsSubset : {L R : Type 0} → (L → L → Bool) → (R → R → Bool) → List (L × R) → List (L × R) → Type 0
IsSubset {L} {R} same_left same_right pairs others = (p : L × R) → Contains pairs p → HasEqual same_left same_right (Contains others) p

-- The map has clones of the pairs in the same order, and the same capacity.
pub record IsCloneOf {L R : Type 0} (is_clone_left : L → L → Type 0) (is_clone_right : R → R → Type 0) (held copy : Holding L R) : Type 0 where
  pub pairs : AllZip (IsPairClone is_clone_left is_clone_right) held.pairs copy.pairs
  pub room : copy.room ≡ held.room

-- The copy of a number is this number.
abbrev pub IsSameNumber : ℕ → ℕ → Type 0
IsSameNumber n copy = copy ≡ n

-- The copy of a byte string has the same bytes.
abbrev pub HasBytesOf : ByteString → ByteString → Type 0
HasBytesOf b copy = copy.bytes.items ≡ b.bytes.items

-- The table has clones of the pairs, and keeps no overwritten pair.
abbrev pub IsTableCloneOf : {R : Type 0} → (R → R → Type 0) → Kept R → Kept R → Type 0
IsTableCloneOf is_clone_right kept copy = IsCloneOf HasBytesOf is_clone_right kept.held copy.held × (copy.struck ≡ Neither)

-- A table of the same kind as another one, of which this is true.
abbrev pub IsOfSameKind : {H : Type 0} → (H → H → Type 0) → Kinds H → Kinds H → Type 0
IsOfSameKind holds it copy = MatchKinds holds holds holds it copy

module _ {H : Type 0} (find : Option CTable → Option (Kinds H)) (old : Option CTable) (status : ℕ) (new : Option CTable) where
  -- What is true of two tables of any kinds. If a handle has no table of these sides, the status is 2. Neither table changes.
  abbrev pub ReadsBoth : Option CTable → Option CTable → (H → H → Type 0) → Type 0
  ReadsBoth other_old other_new holds =
      (new ≡ old) × (other_new ≡ other_old) × MatchOption (find old) (status ≡ 2) (λ it. MatchOption (find other_old) (status ≡ 2) (λ other. holds (in_kind it) (in_kind other)))

  -- What `clone` does. If the second handle had no table, it has a clone of the same kind then, or there was no memory. If it had
  -- one, or if the first handle has no table of these sides, nothing changes.
  abbrev pub Clones : Option CTable → Option CTable → (H → H → Type 0) → Type 0
  Clones copy_old copy_new holds =
      (new ≡ old) × MatchOption (find old) ((status ≡ 2) × (copy_new ≡ copy_old)) (λ it. MatchOption copy_old
      (((status ≡ 0) × MatchOption (find copy_new) ⊥ (IsOfSameKind holds it)) ⊎ ((status ≡ 1) × (copy_new ≡ None)))
      (λ _. (status ≡ 2) × (copy_new ≡ copy_old)))

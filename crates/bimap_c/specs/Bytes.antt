-- What a contract for C says about a table whose lefts are byte strings, and what its calls return, write and leave.
-- The record of the facade holds for some result. The status and the out-parameters are those of this result.
use Rattle.std.specs.Prelude.{◌≡◌, ℕ, ◌<◌, ◌≤◌, ◌++◌, ◌⊎◌, Bool, Option, None, Some, Result, List, [], ◌∷◌, length, drop, nat_eq, IfOk, OnErr}
use Rattle.std.specs.Cmp.Lexicographic.{pointwise, slice_cmp}
use Rattle.std.specs.declared.cmp.Ordering.{Ordering}
use Rattle.std.specs.Ordering.{nat_cmp}
use Rattle.std.specs.Map.Iter.{TakesFirst, TakesLast}
use Rattle.bimap.specs.Holding.{Holding, IsInsertionUnder, IsRemovalByLeft, IsRemovalByRight}
use Rattle.bimap.specs.Types.{Overwritten, Neither, Left, Right, Pair, Both, Policy, NotInsertedWith}
use Rattle.bimap_c.specs.Calls.{inserted_with, on_held, AreFlags, Clears}
use Rattle.bimap_c.specs.declared.byte_string.ByteString.{ByteString}
use Rattle.bimap_c.specs.declared.bytes.BytesTable.{BytesTable}

-- The two byte strings have the same bytes.
abbrev pub same_bytes : ByteString → ByteString → Bool
same_bytes v w = pointwise nat_eq v.bytes.items w.bytes.items

-- The byte string has these bytes.
abbrev pub has_bytes : ByteString → List ℕ → Bool
has_bytes b bytes = pointwise nat_eq b.bytes.items bytes

-- How two byte strings compare, byte by byte.
abbrev pub byte_order : ByteString → ByteString → Ordering
byte_order v w = slice_cmp nat_cmp v.bytes.items w.bytes.items

-- How a byte string compares with bytes.
abbrev pub to_bytes : ByteString → List ℕ → Ordering
to_bytes b bytes = slice_cmp nat_cmp b.bytes.items bytes

-- What the map contains, and the pairs that the last change overwrote or removed.
pub record Kept (R : Type 0) : Type 0 where
  pub held : Holding (ByteString) R
  pub struck : Overwritten (ByteString) R

-- What a table keeps, by what its map contains.
abbrev pub kept : {R B : Type 0} → (B → Holding (ByteString) R) → BytesTable R B → Kept R
kept holding t = record { held = holding t.map; struck = t.struck }

-- The pairs that an insertion overwrote. The pair of the left is first.
abbrev pub named_pairs : {L R : Type 0} → Overwritten L R → List (L × R)
named_pairs Neither = []
named_pairs (Left l r) = (l, r) ∷ []
named_pairs (Right l r) = (l, r) ∷ []
named_pairs (Pair l r) = (l, r) ∷ []
named_pairs (Both p q) = p ∷ (q ∷ [])

-- The number by which C knows what an insertion overwrote.
abbrev pub kind_of : {L R : Type 0} → Overwritten L R → ℕ
kind_of Neither = 0
kind_of (Left l r) = 1
kind_of (Right l r) = 2
kind_of (Pair l r) = 3
kind_of (Both p q) = 4

-- The bytes are written to the front of a buffer, or the buffer is too short. Their length is written in either case.
pub record IsCopiedOut (bytes : List ℕ) (status : ℕ) (old new : List ℕ) (told : ℕ) : Type 0 where
  pub len : told ≡ length bytes
  pub fits : length bytes ≤ length old → (status ≡ 0) × (new ≡ bytes ++ drop (length bytes) old)
  pub short : length old < length bytes → status ≡ 4

-- There are bytes, and they are written so. Or there are none, and the status says so.
abbrev pub AreBytesOut : Option (List ℕ) → ℕ → List ℕ → List ℕ → ℕ → Type 0
AreBytesOut None status old new told = status ≡ 5
AreBytesOut (Some bytes) status old new told = IsCopiedOut bytes status old new told

-- The bytes are written so. If they fit, the number beside them is written too.
abbrev pub IsPairOut : Option (ByteString × ℕ) → ℕ → List ℕ → List ℕ → ℕ → ℕ → Type 0
IsPairOut None status old new told number = status ≡ 5
IsPairOut (Some p) status old new told number = IsCopiedOut p.0.bytes.items status old new told × (status ≡ 0 → number ≡ p.1)

-- The length is written on status 0 and on status 4.
abbrev pub IsLengthWritten : ℕ → ℕ → ℕ → Type 0
IsLengthWritten status old new = (status ≡ 0 → ⊥) → (status ≡ 4 → ⊥) → new ≡ old

module _ {R : Type 0} where
  -- The pair that a removal keeps, and its status.
  abbrev pub IsStruck : Overwritten (ByteString) R → Option (ByteString × R) → ℕ → Overwritten (ByteString) R → Type 0
  IsStruck old None status new = (status ≡ 5) × (new ≡ old)
  IsStruck old (Some p) status new = (status ≡ 0) × (new ≡ Pair p.0 p.1)

  -- What `remove_by_left` does. `same` tests a left.
  abbrev pub RemovesByLeft : {Q : Type 0} → (ByteString → Q → Bool) → Kept R → Q → ℕ → Kept R → Type 0
  RemovesByLeft same old left status new = (taken : Option (ByteString × R))
      × IsRemovalByLeft same old.held left taken new.held × IsStruck old.struck taken status new.struck

  -- What `remove_by_right` does. `same` tests a right.
  abbrev pub RemovesByRight : {Q : Type 0} → (R → Q → Bool) → Kept R → Q → ℕ → Kept R → Type 0
  RemovesByRight same old right status new = (taken : Option (ByteString × R))
      × IsRemovalByRight same old.held right taken new.held × IsStruck old.struck taken status new.struck

  -- What `clear` does.
  abbrev pub ClearsAll : Kept R → ℕ → Kept R → Type 0
  ClearsAll old status new = Clears old.held status new.held × (new.struck ≡ Neither)

  -- What an insertion under a policy does if there was memory for a copy of the left.
  pub record IsInserted (same_right : R → R → Bool) (old : Kept R) (left : List ℕ) (right : R) (policy : Policy) (status : ℕ) (new : Kept R) : Type 0 where
    pub key : ByteString
    pub copy : key.bytes.items ≡ left
    pub result : Result (Overwritten (ByteString) R) (NotInsertedWith (ByteString) R)
    pub inserted : IsInsertionUnder same_bytes same_right old.held (key, right) policy result new.held
    pub told : status ≡ inserted_with result
    pub struck : IfOk result (λ answer. new.struck ≡ answer)
    pub unchanged : OnErr result (new ≡ old)

  -- What an insertion under a policy does. If there was no memory for a copy of the left, nothing changes.
  abbrev pub Inserts : (R → R → Bool) → Kept R → List ℕ → R → Policy → ℕ → Kept R → Type 0
  Inserts same_right old left right policy status new =
      ((status ≡ 1) × (new ≡ old)) ⊎ IsInserted same_right old left right policy status new

  -- What `insert_with` does under two flags. With a flag above 1 nothing changes.
  pub record InsertsFlagged (same_right : R → R → Bool) (old : Kept R) (left : List ℕ) (right : R) (left_refuses right_refuses status : ℕ) (new : Kept R) : Type 0 where
    pub flags : AreFlags left_refuses right_refuses → Inserts same_right old left right (record { left = on_held left_refuses; right = on_held right_refuses }) status new
    pub others : (AreFlags left_refuses right_refuses → ⊥) → (status ≡ 3) × (new ≡ old)

  -- With some right for which the given value stands, the call does what `P` says. Or memory ran out for the right, and nothing
  -- has changed.
  abbrev pub WithRight : {G : Type 0} → Type 0 → (G → R → Type 0) → Kept R → G → ℕ → Kept R → (R → Type 0) → Type 0
  WithRight may_fail stands_for old given status new P = (may_fail × (status ≡ 1) × (new ≡ old)) ⊎ ((right : R) × stands_for given right × P right)

  -- If the insertion was made, the number of what it overwrote is written.
  abbrev pub IsKind : ℕ → ℕ → Kept R → Type 0
  IsKind status kind new = status ≡ 0 → kind ≡ kind_of new.struck

  -- What the removal of the first or the last pair leaves, and what the table keeps of the pair.
  pub record IsTaken (old : Kept R) (taken : Option (ByteString × R)) (status : ℕ) (new : Kept R) : Type 0 where
    pub struck : IsStruck old.struck taken status new.struck
    pub room : new.held.room ≡ old.held.room

  -- What `pop_first` does.
  abbrev pub PopsFirst : Kept R → ℕ → Kept R → Type 0
  PopsFirst old status new = (taken : Option (ByteString × R)) × TakesFirst (λ p. p) old.held.pairs taken new.held.pairs × IsTaken old taken status new

  -- What `pop_last` does.
  abbrev pub PopsLast : Kept R → ℕ → Kept R → Type 0
  PopsLast old status new = (taken : Option (ByteString × R)) × TakesLast (λ p. p) old.held.pairs taken new.held.pairs × IsTaken old taken status new

-- What the calls on a table whose lefts are byte strings do, by the value that stands for a call.
use Rattle.std.specs.Prelude.{◌≡◌, ℕ, Bool, Option, List, length, option_map, Contains}
use Rattle.std.specs.Borrow.{Bor}
use Rattle.bimap.specs.Holding.{Holding, IsFoundByLeft, IsFoundByRight}
use Rattle.bimap.specs.Sets.{HasLeft, HasRight}
use Rattle.bimap_c.specs.Bytes.{Kept, has_bytes, AreBytesOut, ClearsAll, Inserts, InsertsFlagged, IsKind, RemovesByLeft, RemovesByRight, WithRight}
use Rattle.bimap_c.specs.Calls.{Reserves, Shrinks, Tests}
use Rattle.bimap_c.specs.Unpacked.{InsertsMany}
use Rattle.bimap_c.specs.declared.byte_string.ByteString.{ByteString}
use Rattle.bimap_c.specs.declared.bytes_calls.BytesReading.{BytesReading}
use Rattle.bimap_c.specs.declared.bytes_calls.BytesReading.TheVariants.{Len, Capacity, GetByLeft, GetByRight, ContainsLeft, ContainsRight}
use Rattle.bimap_c.specs.declared.bytes_calls.BytesChange.{BytesChange}
use Rattle.bimap_c.specs.declared.bytes_calls.BytesChange.TheVariants.{Reserve, ShrinkTo, Insert, InsertWith, InsertMany, RemoveByLeft, RemoveByRight, Clear}

module _ {R Q : Type 0} (same : R → Q → Bool) (told : Option (Bor R) → ℕ → ℕ → List ℕ → List ℕ → ℕ → Type 0) where
  -- What a call that reads returns, and the count, the number or the bytes that it writes. `same` tests a right. `told` says what
  -- is written of a right.
  abbrev pub Answers : BytesReading Q → Holding ByteString R → ℕ → ℕ → ℕ → List ℕ → List ℕ → ℕ → Type 0
  Answers Len held status count number old new len = (status ≡ 0) × (count ≡ length held.pairs)
  Answers Capacity held status count number old new len = (status ≡ 0) × (count ≡ held.room)
  Answers (GetByLeft left) held status count number old new len = (found : Option (Bor R)) × IsFoundByLeft has_bytes held left.now found
      × told found status number old new len
  Answers (GetByRight right) held status count number old new len = (found : Option (Bor ByteString)) × IsFoundByRight same held right found
      × AreBytesOut (option_map (λ left. left.now.bytes.items) found) status old new len
  Answers (ContainsLeft left) held status count number old new len = Tests (HasLeft has_bytes (Contains held.pairs) left.now) status
  Answers (ContainsRight right) held status count number old new len = Tests (HasRight same (Contains held.pairs) right) status

module _ {R G Q Row : Type 0} (same_right : R → R → Bool) (same : R → Q → Bool) (may_fail : Type 0) (stands_for : G → R → Type 0) (row : ByteString × R → Row) (bytes : ByteString × R → List ℕ) (row_len : Row → ℕ) where
  -- What a call that may change the table returns, leaves and writes.
  abbrev pub Performs : BytesChange Row G Q → Kept R → ℕ → Kept R → ℕ → ℕ → Type 0
  Performs (Reserve more) old status new taken kind = Reserves old.held more status new.held × (new.struck ≡ old.struck)
  Performs (ShrinkTo least) old status new taken kind = Shrinks old.held least status new.held × (new.struck ≡ old.struck)
  Performs (Insert left right policy) old status new taken kind =
      WithRight may_fail stands_for old right status new (λ it. Inserts same_right old left.now it policy status new) × IsKind status kind new
  Performs (InsertWith left right left_refuses right_refuses) old status new taken kind =
      WithRight may_fail stands_for old right status new (λ it. InsertsFlagged same_right old left.now it left_refuses right_refuses status new)
      × IsKind status kind new
  Performs (InsertMany given rows) old status new taken kind = InsertsMany same_right row bytes row_len old rows.now given.now status new taken
  Performs (RemoveByLeft left) old status new taken kind = RemovesByLeft has_bytes old left.now status new
  Performs (RemoveByRight right) old status new taken kind = RemovesByRight same old right status new
  Performs Clear old status new taken kind = ClearsAll old status new

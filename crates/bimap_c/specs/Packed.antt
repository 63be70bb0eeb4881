-- What a call for C writes of pairs that have byte strings: rows of numbers, and the bytes behind one another.
use Rattle.std.specs.Prelude.{◌≡◌, ◌<◌, ◌≤◌, ◌+◌, ◌++◌, ◌⊎◌, ℕ, Option, None, Some, List, ◌∷◌, length, take, drop, map}
use Rattle.std.specs.List.{flat_map}
use Rattle.bimap_c.specs.declared.byte_string.ByteString.{ByteString}
use Rattle.bimap_c.specs.declared.bytes_u64.Row.{Row as NumberRow}
use Rattle.bimap_c.specs.declared.bytes_bytes.Row.{Row as BytesRow}

-- The bytes are written behind the first `at` bytes of a buffer, and this is where they end. Or there is no room for them, and
-- the buffer does not change.
abbrev pub IsWrittenBehind : List ℕ → ℕ → List ℕ → List ℕ → Option ℕ → Type 0
IsWrittenBehind bytes at old new None = (new ≡ old) × (length old < at + length bytes)
IsWrittenBehind bytes at old new (Some end) = (end ≡ at + length bytes) × (end ≤ length old) × (new ≡ take at old ++ bytes ++ drop end old)

-- A pair of a byte string and a number as C sees it, beside its bytes.
abbrev pub u64_row : ByteString × ℕ → NumberRow
u64_row p = record { left_len = length p.0.bytes.items; right = p.1 }

-- A pair of two byte strings as C sees it, beside their bytes.
abbrev pub bytes_row : ByteString × ByteString → BytesRow
bytes_row p = record { left_len = length p.0.bytes.items; right_len = length p.1.bytes.items }

-- The bytes of a pair: those of its left, and then those that its right has.
abbrev pub bytes_of : {R : Type 0} → (R → List ℕ) → ByteString × R → List ℕ
bytes_of of_right p = p.0.bytes.items ++ of_right p.1

module _ {P : Type 0} (bytes : P → List ℕ) where
  -- As many pairs are written as there are rows for, and as fit into the buffer.
  abbrev pub IsMost : List P → ℕ → ℕ → ℕ → Type 0
  IsMost walk rows room filled = filled < rows → filled < length walk → room < length (flat_map bytes (take (filled + 1) walk))

  -- There is a row for the first pair, and its bytes do not fit into the buffer.
  pub record IsFirstTooLong (walk : List P) (rows room needed : ℕ) : Type 0 where
    pub first : P
    pub others : List P
    pub begins : walk ≡ first ∷ others
    pub one_row : 0 < rows
    pub size : needed ≡ length (bytes first)
    pub too_long : room < needed

  module _ {Row : Type 0} (row : P → Row) where
    -- The pairs stand in the first rows, and their bytes behind one another at the front of the buffer. The other rows and the
    -- rest of the buffer are as before.
    pub record ArePacked (pairs : List P) (old new : List Row) (filled : ℕ) (buf_old buf_new : List ℕ) (used : ℕ) : Type 0 where
      pub filled_rows : new ≡ map row pairs ++ drop filled old
      pub filled_bytes : buf_new ≡ flat_map bytes pairs ++ drop used buf_old
      pub count : filled ≡ length pairs
      pub size : used ≡ length (flat_map bytes pairs)
      pub rows_there : filled ≤ length old
      pub room : used ≤ length buf_old

    -- What `fill` does with the pairs that it is to write. On status 4 it has written the size of the first of them.
    abbrev pub Packs : List P → ℕ → List Row → List Row → ℕ → List ℕ → List ℕ → ℕ → Type 0
    Packs walk status old new filled buf_old buf_new used =
        ((status ≡ 0) × ArePacked (take filled walk) old new filled buf_old buf_new used × IsMost walk (length old) (length buf_old) filled)
        ⊎ ((status ≡ 4) × IsFirstTooLong walk (length old) (length buf_old) used)

-- What a call for C inserts of rows and the bytes of their pairs.
use Rattle.std.specs.Prelude.{◌≡◌, ◌<◌, ◌≤◌, ℕ, Bool, List, [], ◌∷◌, length, take, map, sum_by, nat_eq, if◌then◌else◌}
use Rattle.std.specs.List.{flat_map}
use Rattle.bimap.specs.Types.{Overwrite}
use Rattle.bimap_c.specs.Bytes.{Kept, IsInserted}
use Rattle.bimap_c.specs.declared.byte_string.ByteString.{ByteString}

module _ {P Row : Type 0} (row : P → Row) (bytes : P → List ℕ) where
  -- The first rows are those of the pairs. The first bytes are those of the pairs, behind one another, as `fill` writes them.
  pub record AreFirst (pairs : List P) (rows : List Row) (buf : List ℕ) : Type 0 where
    pub first_rows : take (length pairs) rows ≡ map row pairs
    pub first_bytes : take (length (flat_map bytes pairs)) buf ≡ flat_map bytes pairs

module _ {R : Type 0} (same_right : R → R → Bool) where
  -- The pair was inserted as `insert` does.
  abbrev pub IsPut : Kept R → ByteString × R → Kept R → Type 0
  IsPut old p new = IsInserted same_right old p.0.bytes.items p.1 (record { left = Overwrite; right = Overwrite }) 0 new

  -- The pairs were inserted in order, each as `insert` does.
  abbrev pub ArePut : Kept R → List (ByteString × R) → Kept R → Type 0
  ArePut old [] new = new ≡ old
  ArePut old (p ∷ pairs) new = (now : Kept R) × IsPut old p now × ArePut now pairs new

  module _ {Row : Type 0} (row : ByteString × R → Row) (bytes : ByteString × R → List ℕ) where
    -- The pairs of the first `taken` rows were inserted.
    pub record InsertsFirst (old : Kept R) (rows : List Row) (buf : List ℕ) (taken : ℕ) (new : Kept R) : Type 0 where
      pub pairs : List (ByteString × R)
      pub first : AreFirst row bytes pairs rows buf
      pub put : ArePut old pairs new
      pub count : taken ≡ length pairs

    -- What `insert_many` does, by the number of bytes of a row. It inserts the pairs of all rows, or those before a row that ran
    -- out of memory. If the rows have more bytes than there are, nothing changes.
    pub record InsertsMany (row_len : Row → ℕ) (old : Kept R) (rows : List Row) (buf : List ℕ) (status : ℕ) (new : Kept R) (taken : ℕ) : Type 0 where
      pub fits : sum_by row_len rows ≤ length buf → InsertsFirst old rows buf taken new × (status ≡ (if nat_eq taken (length rows) then 0 else 1))
      pub others : length buf < sum_by row_len rows → (status ≡ 3) × (new ≡ old)

-- What a contract for C says beside `Bytes` if both sides are byte strings.
use Rattle.std.specs.Prelude.{◌≡◌, ℕ, ◌<◌, ◌≤◌, ◌++◌, ◌⊎◌, Option, None, Some, List, length, drop}
use Rattle.bimap_c.specs.Bytes.{Kept}
use Rattle.bimap_c.specs.declared.byte_string.ByteString.{ByteString}

-- With some copy of the bytes, the call does what `P` says. Or there was no memory for a copy, and nothing has changed.
abbrev pub WithCopy : {R : Type 0} → Kept R → List ℕ → ℕ → Kept R → (ByteString → Type 0) → Type 0
WithCopy old bytes status new P = ((status ≡ 1) × (new ≡ old)) ⊎ ((copy : ByteString) × (copy.bytes.items ≡ bytes) × P copy)

-- The bytes of both values are written to the fronts of their buffers, or one buffer is too short. The lengths are written
-- in either case.
pub record AreCopiedOut (p : ByteString × ByteString) (status : ℕ) (left_old left_new : List ℕ) (left_told : ℕ) (right_old right_new : List ℕ) (right_told : ℕ) : Type 0 where
  pub left_len : left_told ≡ length p.0.bytes.items
  pub right_len : right_told ≡ length p.1.bytes.items
  pub status_told : length p.0.bytes.items ≤ length left_old → length p.1.bytes.items ≤ length right_old → status ≡ 0
  pub left : status ≡ 0 → left_new ≡ p.0.bytes.items ++ drop (length p.0.bytes.items) left_old
  pub right : status ≡ 0 → right_new ≡ p.1.bytes.items ++ drop (length p.1.bytes.items) right_old
  pub left_short : length left_old < length p.0.bytes.items → status ≡ 4
  pub right_short : length right_old < length p.1.bytes.items → status ≡ 4

-- There is a pair, and it is written so. Or there is none, and the status says so.
abbrev pub AreBothOut : Option (ByteString × ByteString) → ℕ → List ℕ → List ℕ → ℕ → List ℕ → List ℕ → ℕ → Type 0
AreBothOut None status left_old left_new left_told right_old right_new right_told = status ≡ 5
AreBothOut (Some p) status left_old left_new left_told right_old right_new right_told =
    AreCopiedOut p status left_old left_new left_told right_old right_new right_told

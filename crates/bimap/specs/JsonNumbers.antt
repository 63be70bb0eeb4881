-- What the types of whole numbers have in common.
use Rattle.std.specs.Prelude.{◌≡◌, ◌≢◌, ℕ, ℤ, List, Option, Some, None, Result, Ok, Err, ◌⊎◌, length, slice_index, decimal}
use Rattle.std.specs.Fmt.{signed_decimal}
use Rattle.serde_json.specs.Data.{Data, number, unsigned}
use Rattle.serde_json.specs.Find.{of_integer}
use Rattle.bimap.specs.JsonTexts.{IsUnsignedText, IsSignedText, IsUnsignedValue, IsSignedValue}

-- The text begins with no plus. It has no needless zero in front, and no zero after a minus.
pub record IsPlain (text : List ℕ) : Type 0 where
  pub no_plus : slice_index text 0 ≢ 43
  pub no_zero : slice_index text 0 ≡ 48 → length text ≡ 1
  pub no_minus_zero : slice_index text 0 ≡ 45 → slice_index text 1 ≢ 48

-- How the numbers of a type are written, and what reads as a number of this type.
pub record NumberForm (T : Type 0) : Type 1 where
  pub writes_key : T → List ℕ
  pub reads_key : List ℕ → T → Type 0
  pub writes : T → Data
  pub reads : Data → T → Type 0

-- The form of an unsigned type with this many bits.
abbrev pub unsigned_form : ℕ → NumberForm ℕ
unsigned_form bits = record { writes_key = decimal; reads_key = IsUnsignedText bits; writes = λ n. number (unsigned n); reads = IsUnsignedValue bits }

-- The form of a signed type with this many bits, the sign not counted.
abbrev pub signed_form : ℕ → NumberForm ℤ
signed_form bits = record { writes_key = signed_decimal; reads_key = IsSignedText bits; writes = λ z. number (of_integer z); reads = IsSignedValue bits }

-- For a plain text, the result is that of `parse`. For any other text it is `None`.
abbrev pub ParsesPlain : {T E : Type 0} → (List ℕ → Result T E → Type 0) → List ℕ → Option T → Type 0
ParsesPlain parses text (Some n) = IsPlain text × parses text (Ok n)
ParsesPlain {T} {E} parses text None = (IsPlain text → ⊥) ⊎ ((e : E) × parses text (Err e))

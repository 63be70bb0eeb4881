-- The text of a line: a JSON value, and a checksum that shows damage.
use Rattle.std.specs.Prelude.{◌≡◌, ℕ, zero, suc, ◌+◌, ◌*◌, ◌/◌, ◌%◌, ◌^◌, List, [], ◌∷◌, ◌++◌, Some, Contains, bit_xor, if◌then◌else◌, nat_lt}
use Rattle.std.specs.List.{fold}
use Rattle.std.specs.Str.{IsUtf8}
use Rattle.serde_json.specs.Data.{Data}
use Rattle.serde_json.specs.Read.{read as read_json}
use Rattle.bimap_journal.specs.declared.text.NotWritten.{NotWritten}
use Rattle.bimap_journal.specs.declared.text.NotWritten.TheVariants.{Memory, LineBreak}

-- FNV-1a with 32 bits.
abbrev pub checksum : List ℕ → ℕ
checksum bytes = fold (λ sum byte. (bit_xor sum byte * 16777619) % 2 ^ 32) 2166136261 bytes

-- A hexadecimal digit.
abbrev pub digit : ℕ → ℕ
digit n = if nat_lt n 10 then 48 + n else 87 + n

-- So many hexadecimal digits of a number, the highest first.
abbrev pub digits : ℕ → ℕ → List ℕ
digits zero n = []
digits (suc count) n = digits count (n / 16) ++ digit (n % 16) ∷ []

-- The text says this JSON value, and its checksum is right.
pub record Says (text : List ℕ) (value : Data) : Type 0 where
  pub json : List ℕ
  pub is : text ≡ json ++ 32 ∷ digits 8 (checksum json)
  pub is_text : IsUtf8 json
  pub is_read : read_json json ≡ Some value

-- Why a value was not written. It has a line break only if its JSON has one.
abbrev pub IsFault : Data → NotWritten → Type 0
IsFault value Memory = Unit {0}
IsFault value LineBreak = (json : List ℕ) × (read_json json ≡ Some value) × Contains json 10

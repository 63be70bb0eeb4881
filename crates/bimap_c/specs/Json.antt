-- What the JSON calls of a table of byte strings and numbers write and read.
use Rattle.std.specs.Prelude.{◌≡◌, ◌⊎◌, ℕ, Option, Some, List, Result, Ok, Err, Contains, MatchResult, nat_eq}
use Rattle.std.specs.List.{All}
use Rattle.std.specs.Str.{IsUtf8}
use Rattle.serde_json.specs.Data.{Data, number, unsigned}
use Rattle.serde_json.specs.Read.{read as read_text}
use Rattle.bimap.specs.Holding.{Holding}
use Rattle.bimap.specs.JsonDocument.{ReadsTextUnder}
use Rattle.bimap.specs.JsonObjects.{IsObjectOf, IsEntryOf}
use Rattle.bimap.specs.JsonTexts.{IsUnsignedValue}
use Rattle.bimap.specs.Types.{Neither, Policy, Refuse}
use Rattle.bimap.specs.declared.value.object.JsonFault.{JsonFault}
use Rattle.bimap.specs.declared.value.object.JsonFault.TheVariants.{Memory}
use Rattle.bimap_c.specs.Bytes.{Kept, same_bytes, IsCopiedOut}
use Rattle.bimap_c.specs.declared.byte_string.ByteString.{ByteString}

-- Each left is text in UTF-8.
abbrev pub AreTexts : List (ByteString × ℕ) → Type 0
AreTexts pairs = All (λ p. IsUtf8 p.0.bytes.items) pairs

-- The text is a JSON object. Its entries are the pairs, each a name and its number.
abbrev pub IsJsonOf : List (ByteString × ℕ) → List ℕ → Type 0
IsJsonOf pairs text =
    (value : Data) × (read_text text ≡ Some value) × IsObjectOf (IsEntryOf (λ b. b.bytes.items) (λ n. number (unsigned n)) (Contains pairs)) value

-- Such a text is written, or there was no memory.
abbrev pub WritesJson : List (ByteString × ℕ) → ℕ → List ℕ → List ℕ → ℕ → Type 0
WritesJson pairs status old new told = (status ≡ 1) ⊎ ((text : List ℕ) × IsJsonOf pairs text × IsCopiedOut text status old new told)

-- What `to_json` does.
pub record WritesTexts (pairs : List (ByteString × ℕ)) (status : ℕ) (old new : List ℕ) (told : ℕ) : Type 0 where
  pub texts : AreTexts pairs → WritesJson pairs status old new told
  pub others : (AreTexts pairs → ⊥) → status ≡ 3

-- The status for what stopped a reading.
abbrev pub read_status : JsonFault → ℕ
read_status Memory = 1
read_status fault = 3

-- What a reading leaves: the pairs that were read, or the table as it was.
abbrev pub IsReadInto : Kept ℕ → Result (Holding ByteString ℕ) JsonFault → ℕ → Kept ℕ → Type 0
IsReadInto old (Ok held) status new = (status ≡ 0) × (new.held ≡ held) × (new.struck ≡ Neither)
IsReadInto old (Err fault) status new = (status ≡ read_status fault) × (new ≡ old)

-- What `from_json` does. It reads a text into a map of capacity 0, and no name or number may occur twice.
pub record ReadsJson (old : Kept ℕ) (text : List ℕ) (status : ℕ) (new : Kept ℕ) : Type 0 where
  pub texts : IsUtf8 text → (answer : Result (Holding ByteString ℕ) JsonFault)
      × ReadsTextUnder (λ t b. b.bytes.items ≡ t) (IsUnsignedValue 64) same_bytes nat_eq (λ held. held) 0 text (record { left = Refuse; right = Refuse }) answer × IsReadInto old answer status new
  pub others : (IsUtf8 text → ⊥) → (status ≡ 3) × (new ≡ old)

-- What texts and JSON values read as, for the types of the standard library.
use Rattle.std.specs.Prelude.{◌≡◌, ℕ, ◌<◌, ◌^◌, Bool, if◌then◌else◌, List, codes, Some, option_and_then, decimal, ℤ, pos, negsuc, String, string_bytes}
use Rattle.std.specs.Fmt.{signed_decimal}
use Rattle.std.specs.Char.{encode_utf8, IsScalar}
use Rattle.std.specs.declared.alloc.Global.{Global}
use Rattle.serde_json.specs.Data.{Data}
use Rattle.serde_json.specs.Find.{as_bool, as_number, as_u64, as_i64, as_str}

-- The integer `z` is in the range of the signed type with this many bits, the sign not counted.
abbrev pub IsWithin : ℕ → ℤ → Type 0
IsWithin bits (pos n) = n < 2 ^ bits
IsWithin bits (negsuc n) = n < 2 ^ bits

-- The text is the plain decimal form of `n`, which has at most this many bits.
abbrev pub IsUnsignedText : ℕ → List ℕ → ℕ → Type 0
IsUnsignedText bits text n = (text ≡ decimal n) × (n < 2 ^ bits)

-- The text is the plain decimal form of `z`, which is in the range.
abbrev pub IsSignedText : ℕ → List ℕ → ℤ → Type 0
IsSignedText bits text z = (text ≡ signed_decimal z) × IsWithin bits z

-- The text is the one character `c`.
abbrev pub IsCharText : List ℕ → ℕ → Type 0
IsCharText text c = (text ≡ encode_utf8 c) × IsScalar c

-- The text is the content of the string.
abbrev pub IsStringText : List ℕ → String Global → Type 0
IsStringText text s = string_bytes s ≡ text

-- The text as which a `bool` is written.
abbrev pub bool_text : Bool → List ℕ
bool_text b = if b then codes "true" else codes "false"

-- The text is that of the `bool` `b`.
abbrev pub IsBoolText : List ℕ → Bool → Type 0
IsBoolText text b = text ≡ bool_text b

-- The value is the whole number `n`, which has at most this many bits.
abbrev pub IsUnsignedValue : ℕ → Data → ℕ → Type 0
IsUnsignedValue bits value n = (option_and_then as_u64 (as_number value) ≡ Some n) × (n < 2 ^ bits)

-- The value is the whole number `z`, which is in the range.
abbrev pub IsSignedValue : ℕ → Data → ℤ → Type 0
IsSignedValue bits value z = (option_and_then as_i64 (as_number value) ≡ Some z) × IsWithin bits z

-- The value is a text of the one character `c`.
abbrev pub IsCharValue : Data → ℕ → Type 0
IsCharValue value c = (as_str value ≡ Some (encode_utf8 c)) × IsScalar c

-- The value is the text of the string.
abbrev pub IsStringValue : Data → String Global → Type 0
IsStringValue value s = as_str value ≡ Some (string_bytes s)

-- The value is the `bool` `b`.
abbrev pub IsBoolValue : Data → Bool → Type 0
IsBoolValue value b = as_bool value ≡ Some b

-- What the texts of characters, strings and `bool`s read as.
use Rattle.std.proofs.Common.{◌≡◌, ℕ, ◌<◌, ◌^◌, ◌&&◌, List, [], ◌∷◌, Bool, true, false, nat_eq, Some, Result, Ok, Err, refl, sym, ap, ◌∙◌, length, get_or, append-nil, arith, String, string_bytes, Global}
use Rattle.std.specs.Bool.{beq}
use Rattle.std.specs.Char.{encode_utf8, IsScalar}
use Rattle.std.specs.Str.{IsUtf8, chars}
use Rattle.std.specs.Global.{Vec}
use Rattle.std.proofs.lemmas.Str.{chars-encodes}
use borrow.Author.Tests.{eq-eqb}
use denote.RawPtr.{null_ptr}
use Rattle.std.specs.Cmp.Lexicographic.{bytes_decides}
use Rattle.std.specs.String.{string_eq}
use Rattle.serde_json.specs.Data.{Data, boolean, string}
use Rattle.serde_json.specs.Find.{as_str}
use Rattle.bimap.specs.JsonReading.{Reads, ReadsBack, ReadsSomething}
use Rattle.bimap.specs.declared.value.sides.ReadFault.{ReadFault}
use Rattle.bimap.specs.declared.value.sides.ReadFault.TheVariants.{Bad, Memory}
use Rattle.bimap.specs.JsonTexts.{IsCharText, IsStringText, IsCharValue, IsStringValue, bool_text, IsBoolText, IsBoolValue}

pub some_inj : {A : Type 0} (x y : A) → Some x ≡ Some y → x ≡ y
some_inj x y e = cc

one_char : (c : ℕ) → IsScalar c → chars (encode_utf8 c) ≡ c ∷ []
one_char c s = ap chars (sym (append-nil (encode_utf8 c))) ∙ chars-encodes (c ∷ []) (ap (λ b. b && true) s)

same_char : (c d : ℕ) → IsScalar c → IsScalar d → encode_utf8 c ≡ encode_utf8 d → c ≡ d
same_char c d s t e = ap (λ l. get_or l 0 0) (sym (one_char c s) ∙ ap chars e ∙ one_char d t)

pub back_char : (c : ℕ) → IsScalar c → ReadsBack nat_eq (IsCharText (encode_utf8 c)) c
back_char c s = record { as_value = c; reads = (refl, s); only = λ k t. eq-eqb k c (sym (same_char c k s t.1 t.0)) }

pub back_char_json : (c : ℕ) → IsScalar c → ReadsBack nat_eq (IsCharValue (string (encode_utf8 c))) c
back_char_json c s = record { as_value = c; reads = (refl, s); only = λ k t. eq-eqb k c (sym (same_char c k s t.1 (some_inj _ _ t.0))) }

pub back_string : (s : String Global) → ReadsBack string_eq (IsStringText (string_bytes s)) s
back_string s = record { as_value = s; reads = refl; only = λ k e. (bytes_decides (string_bytes k) (string_bytes s)).1 e }

pub back_string_json : (s : String Global) → ReadsBack string_eq (IsStringValue (string (string_bytes s))) s
back_string_json s = record { as_value = s; reads = refl; only = λ k e. (bytes_decides (string_bytes k) (string_bytes s)).1 (sym (some_inj _ _ e)) }

-- A vector of these bytes, for statements alone.
abbrev pub bytes_of : Global → (bytes : List ℕ) → length bytes < 2 ^ 63 → Vec ℕ
bytes_of alloc bytes short = record { ptr = null_ptr; len = length bytes; cap = length bytes; alloc = alloc; items = bytes; ok = (refl, omega arith); small = short }

-- Each text is that of some string.
pub reads_string : (alloc : Global) (text : List ℕ) → length text < 2 ^ 63 → IsUtf8 text → ReadsSomething (IsStringText text)
reads_string alloc text short utf8 = (record { bytes = bytes_of alloc text short; ok = ∣ utf8 ∣₁ }, refl)

-- What is true of reading the text of a JSON value is true of reading the value.
pub read_text_of : (value : Data) (text : List ℕ) (r : Result (String Global) ReadFault) → Some text ≡ as_str value → Reads (IsStringText text) r → Reads (IsStringValue value) r
read_text_of value text (Ok s) is read = sym is ∙ ap Some (sym read)
read_text_of value text (Err Bad) is none = λ s t. none s (sym (some_inj text (string_bytes s) (is ∙ t)))
read_text_of value text (Err Memory) is some = (some.0, sym is ∙ ap Some (sym some.1))

same_truth : (b w : Bool) → bool_text b ≡ bool_text w → beq w b ≡ true
same_truth true true e = refl
same_truth true false e = absurd (omega (arith, ap (λ l. get_or l 0 0) e))
same_truth false true e = absurd (omega (arith, ap (λ l. get_or l 0 0) e))
same_truth false false e = refl

pub back_bool : (b : Bool) → ReadsBack beq (IsBoolText (bool_text b)) b
back_bool b = record { as_value = b; reads = refl; only = same_truth b }

pub back_bool_json : (b : Bool) → ReadsBack beq (IsBoolValue (boolean b)) b
back_bool_json b = record { as_value = b; reads = refl; only = λ w e. same_truth b w (ap bool_text (some_inj b w e)) }

-- The types of the standard library can be kept.
use Rattle.std.specs.Prelude.{◌≡◌, ℕ, Bool, true, false, Some, string_bytes, nat_eq, refl}
use Rattle.std.specs.Ordering.{int_eq}
use Rattle.std.proofs.Common.{◌∙◌, sym, subst}
use Rattle.std.specs.Bool.{beq}
use Rattle.std.specs.Cmp.{IsEquivalence}
use Rattle.std.proofs.lemmas.Cmp.{nat_eq_equiv, int_eq_equiv, nat_list_eq_equiv}
use Rattle.std.specs.String.{string_eq}
use Rattle.bimap.specs.JsonTexts.{IsUnsignedValue, IsSignedValue, IsCharValue, IsStringValue, IsBoolValue}
use Rattle.bimap.proofs.JsonTexts.{back_char}
use Rattle.bimap_journal.specs.Stored.{ReadsAsOne}

-- Values that are the same are equal.
equal : {T : Type 0} {E : T → T → Bool} → IsEquivalence E → (v w : T) → v ≡ w → E v w ≡ true
equal {E = E} e v w same = subst (λ x. E v x ≡ true) same (e.refl v)

-- What one JSON value reads as is one unsigned number.
pub unsigned_one : (bits : ℕ) → ReadsAsOne (IsUnsignedValue bits) nat_eq
unsigned_one bits json v w a b = equal nat_eq_equiv v w (let e : Some v ≡ Some w = sym a.0 ∙ b.0 in cc)

-- What one JSON value reads as is one signed number.
pub signed_one : (bits : ℕ) → ReadsAsOne (IsSignedValue bits) int_eq
signed_one bits json v w a b = equal int_eq_equiv v w (let e : Some v ≡ Some w = sym a.0 ∙ b.0 in cc)

-- What one JSON value reads as is one character.
pub char_one : ReadsAsOne IsCharValue nat_eq
char_one json v w a b = (back_char w b.1).only v ((let e : Some _ ≡ Some _ = sym b.0 ∙ a.0 in cc), a.1)

-- What one JSON value reads as are equal strings.
pub string_one : ReadsAsOne IsStringValue string_eq
string_one json v w a b =
    let e : Some (string_bytes v) ≡ Some (string_bytes w) = sym a ∙ b in
    let same : string_bytes v ≡ string_bytes w = cc in
    equal nat_list_eq_equiv (string_bytes v) (string_bytes w) same

-- What one JSON value reads as is one truth value.
pub bool_one : ReadsAsOne IsBoolValue beq
bool_one json true true a b = refl
bool_one json false false a b = refl
bool_one json true false a b = absurd (cc (sym a ∙ b))
bool_one json false true a b = absurd (cc (sym a ∙ b))

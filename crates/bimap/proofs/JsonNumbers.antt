-- How the types of whole numbers are written and read.
use Rattle.std.proofs.Common.{◌≡◌, ◌≢◌, ℕ, zero, suc, ◌<◌, ◌≤◌, ◌^◌, List, [], ◌∷◌, Bool, true, false, cond, nat_eq, inl, inr, Option, Some, None, Ok, Err, refl, sym, ap, subst, ◌∙◌, arith, length, get_or, ℤ, pos, negsuc, neg_ℤ, option_and_then}
use Rattle.std.specs.Ordering.{int_eq}
use Rattle.std.specs.Cmp.{signed_Decides}
use Rattle.std.specs.Fmt.{decimal, signed_decimal}
use Rattle.std.specs.Str.Parse.{AllDigits, digits_value, starts_with_minus, ParsesUnsigned, ParsesSigned, ExplainsUnsignedError, ExplainsSignedError, HasUnsignedDigitsIfOk, HasSignedDigitsIfOk}
use Rattle.std.specs.declared.num.ParseIntError.{ParseIntError}
use Rattle.std.proofs.lemmas.Fmt.{decimal_is_IsNumeral, decimal_nonempty, decimal_digit, first_decimal, decimal_injective, signed_decimal_injective, decimal-digits_value, parse-decimal, parse-signed_decimal}
use Rattle.std.proofs.lemmas.Str.Parse.{numerals_by_value, tells_digits, IsNumeralModel, not_in_digits, parse_plain, parse_signed_plain, parse_signed_minus}
use mir.Syntax.{Width}
use mir.Val.{hbits}
use lib.Signed.{mag}
use borrow.Author.Tests.{eq-eqb, eqb-true, eqb-false, lt-ltb}
use Rattle.serde_json.specs.Data.{number, unsigned}
use Rattle.serde_json.specs.Find.{as_i64, as_number, of_integer}
use Rattle.bimap.specs.JsonReading.{ReadsSome, ReadsBack}
use Rattle.bimap.specs.JsonTexts.{IsWithin, IsUnsignedText, IsSignedText, IsUnsignedValue, IsSignedValue}
use Rattle.bimap.specs.JsonNumbers.{IsPlain, ParsesPlain}
use Rattle.bimap.proofs.JsonTexts.{some_inj}

own : IsNumeralModel (AllDigits 10) (digits_value 10)
own = numerals_by_value (AllDigits 10) tells_digits

not_first : (n c : ℕ) → n < 2 ^ 64 → c < 48 → get_or (decimal n) 0 0 ≢ c
not_first n c h l = not_in_digits own (decimal n) c (decimal_is_IsNumeral n h).0.1 (λ r. omega (arith, r.0, l)) 0 (decimal_nonempty n h)

lead : (n : ℕ) → n < 2 ^ 64 → get_or (decimal n) 0 0 ≡ 48 → length (decimal n) ≡ 1
lead zero h e = ap length (decimal_digit 0 (omega arith))
lead (suc n) h e = absurd (omega (arith, first_decimal (suc n) (omega arith) h))

plain_decimal : (n : ℕ) → n < 2 ^ 64 → IsPlain (decimal n)
plain_decimal n h = record { no_plus = not_first n 43 h (omega arith); no_zero = lead n h; no_minus_zero = λ e. absurd (not_first n 45 h (omega arith) e) }

module _ (bits : ℕ) (le : 2 ^ bits ≤ 2 ^ 64) where
  pub unsigned_text_back : (n : ℕ) → n < 2 ^ bits → ReadsBack nat_eq (IsUnsignedText bits (decimal n)) n
  unsigned_text_back n h = record { as_value = n; reads = (refl, h); only = λ k t. eq-eqb k n (sym (decimal_injective n k (omega (arith, h, le)) (omega (arith, t.1, le)) t.0)) }

  pub unsigned_back : (n : ℕ) → n < 2 ^ bits → ReadsBack nat_eq (IsUnsignedValue bits (number (unsigned n))) n
  unsigned_back n h = record { as_value = n; reads = (refl, h); only = λ k t. eq-eqb k n (sym (some_inj n k t.0)) }

  pub unsigned_read : (s : List ℕ) (o : Option ℕ) → ParsesPlain (λ s r. ParsesUnsigned bits 10 s r × ExplainsUnsignedError 10 s r × HasUnsignedDigitsIfOk s r) s o → ReadsSome (IsUnsignedText bits s) o
  unsigned_read s (Some n) h =
      let k = parse_plain own {E = ParseIntError} bits s (Ok n) h.1.0 h.0.no_plus in
      (sym (ap decimal k.1 ∙ decimal-digits_value own s k.0.0 k.0.1 h.0.no_zero (omega (arith, k.0.2, le))), omega (arith, k.1, k.0.2))
  unsigned_read s None h = λ n t.
      elim h [
        | inl not ↦ not (subst IsPlain (sym t.0) (plain_decimal n (omega (arith, t.1, le))))
        | inr failed ↦ cc (parse-decimal bits n s (Err failed.0) t.1 (omega (arith, t.1, le)) t.0 failed.1.0)
      ]

-- The range of a signed number, as the specs define it and as a proof knows it.
within : (bits : ℕ) (z : ℤ) → mag z < 2 ^ bits → IsWithin bits z
within bits (pos n) h = h
within bits (negsuc n) h = h

sized : (bits : ℕ) (z : ℤ) → IsWithin bits z → mag z < 2 ^ bits
sized bits (pos n) h = h
sized bits (negsuc n) h = h

module _ (bits : ℕ) (le : 2 ^ bits ≤ 2 ^ 63) where
  as_i64_back : (z : ℤ) → mag z < 2 ^ bits → option_and_then as_i64 (as_number (number (of_integer z))) ≡ Some z
  as_i64_back (pos n) h = ap (λ b. cond b (Some (pos n)) None) (lt-ltb n (2 ^ 63) (omega (arith, h, le)))
  as_i64_back (negsuc n) h = refl

  pub signed_text_back : (z : ℤ) → mag z < 2 ^ bits → ReadsBack int_eq (IsSignedText bits (signed_decimal z)) z
  signed_text_back z h = record { as_value = z; reads = (refl, within bits z h); only = λ k t. (signed_Decides k z).1 (sym (signed_decimal_injective z k (omega (arith, h, le)) (omega (arith, sized bits k t.1, le)) t.0)) }

  pub signed_back : (z : ℤ) → mag z < 2 ^ bits → ReadsBack int_eq (IsSignedValue bits (number (of_integer z))) z
  signed_back z h = record { as_value = z; reads = (as_i64_back z h, within bits z h); only = λ k t. (signed_Decides k z).1 (sym (some_inj z k (sym (as_i64_back z h) ∙ t.0))) }

  plain_signed : (z : ℤ) → IsWithin bits z → IsPlain (signed_decimal z)
  plain_signed (pos n) h = plain_decimal n (omega (arith, h, le))
  plain_signed (negsuc n) h = record { no_plus = λ e. omega (arith, e); no_zero = λ e. absurd (omega (arith, e)); no_minus_zero = λ _ e. omega (arith, e, first_decimal (suc n) (omega arith) (omega (arith, h, le))) }

module _ (w : Width) (le : 2 ^ hbits w ≤ 2 ^ 63) where
  read_minus : (s : List ℕ) (z : ℤ) → IsPlain s → ParsesSigned {E = ParseIntError} w 10 s (Ok z) → get_or s 0 0 ≡ 45 → IsSignedText (hbits w) s z
  read_minus [] z p h is = absurd (omega (arith, is))
  read_minus (c ∷ cs) z p h is = by (digits_value 10 cs) refl
    where
      k : (AllDigits 10 cs × (0 < length cs) × (digits_value 10 cs ≤ 2 ^ hbits w)) × (z ≡ neg_ℤ (pos (digits_value 10 cs)))
      k = parse_signed_minus own {E = ParseIntError} w (c ∷ cs) (Ok z) h is

      same : decimal (digits_value 10 cs) ≡ cs
      same = decimal-digits_value own cs k.0.0 k.0.1 (λ e. absurd (p.no_minus_zero is e)) (omega (arith, k.0.2, le))

      by : (v : ℕ) → digits_value 10 cs ≡ v → IsSignedText (hbits w) (c ∷ cs) z
      by zero e = absurd (p.no_minus_zero is (ap (λ l. get_or l 0 0) (sym same ∙ ap decimal e ∙ decimal_digit 0 (omega arith))))
      by (suc m) e =
          let v : z ≡ negsuc m = k.1 ∙ ap (λ x. neg_ℤ (pos x)) e in
          ((λ i. is i ∷ (sym same ∙ ap decimal e) i) ∙ ap signed_decimal (sym v), subst (IsWithin (hbits w)) (sym v) (omega (arith, k.0.2, e)))

  pub signed_read : (s : List ℕ) (o : Option ℤ) → ParsesPlain (λ s r. ParsesSigned w 10 s r × ExplainsSignedError 10 s r × HasSignedDigitsIfOk s r) s o → ReadsSome (IsSignedText (hbits w) s) o
  signed_read s (Some z) h = by (starts_with_minus s) refl
    where
      by : (b : Bool) → starts_with_minus s ≡ b → IsSignedText (hbits w) s z
      by true e = read_minus s z h.0 h.1.0 (eqb-true _ 45 e)
      by false e =
          let k = parse_signed_plain own {E = ParseIntError} w s (Ok z) h.1.0 h.0.no_plus (eqb-false _ 45 e) in
          (sym (ap signed_decimal k.1 ∙ decimal-digits_value own s k.0.0 k.0.1 h.0.no_zero (omega (arith, k.0.2, le))), subst (IsWithin (hbits w)) (sym k.1) k.0.2)
  signed_read s None h = λ z t.
      elim h [
        | inl not ↦ not (subst IsPlain (sym t.0) (plain_signed (hbits w) le z t.1))
        | inr failed ↦
            let f = sized (hbits w) z t.1 in
            cc (parse-signed_decimal w z s (Err failed.0) (record { sfits = f }) (omega (arith, f, le)) t.0 failed.1.0)
      ]

-- The lemmas on which the contracts of each type rest.
pub ruleset number_laws = (unsigned_text_back, unsigned_back, unsigned_read, signed_text_back, signed_back)

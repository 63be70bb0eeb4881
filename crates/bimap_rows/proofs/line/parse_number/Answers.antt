use Rattle.std.proofs.Common.{◌≡◌, ◌<◌, ◌^◌, ◌≢◌, ℕ, List, true, length, get_or, arith, MatchOption}
use Rattle.std.specs.Prelude.{Result, Ok, Err}
use Rattle.std.specs.Result.{OkIff, result_ok}
use Rattle.std.specs.Str.{all_ascii_digits}
use Rattle.std.specs.Str.Parse.{digits_value}
use Rattle.std.proofs.lemmas.Str.Parse.{IsNumeralModel, numerals_by_value, tells_all_ascii_digits, parse_plain}
use Rattle.std.proofs.lemmas.Str.Pattern.{starts_char}
use Rattle.std.proofs.lemmas.Bool.Decides.{not_from_Decides}
use Rattle.bimap_rows.specs.Lines.{IsNumeral}
use Rattle.bimap_rows.proofs.line.parse_number.Goals as goal

own : IsNumeralModel (λ ds. all_ascii_digits ds ≡ true) (digits_value 10)
own = numerals_by_value _ tells_all_ascii_digits

kept : {E : Type 0} (s : List ℕ) (r : Result ℕ E) → OkIff r ((all_ascii_digits s ≡ true) × (0 < length s) × (digits_value 10 s < 2 ^ 32)) (digits_value 10 s) → MatchOption (result_ok r) ((n : ℕ) → IsNumeral s n → ⊥) (IsNumeral s)
kept s (Ok n) h = (h.0.0, h.0.1, h.0.2, h.1)
kept s (Err e) none = λ n h. none (h.0, h.1, h.2)

pub returns : goal.returns
returns c =
    let s = c.args.word.now in
    let no_plus : get_or s 0 0 ≢ 43 = not_from_Decides c.starts_with.result (starts_char 43 s c.starts_with.result c.starts_with.ensures.cases (omega arith) (omega arith)) c.if-starts_with.false in
    rw c.ok.ensures.value (kept s c.parse.result (parse_plain own 32 s c.parse.result c.parse.ensures.value.0 no_plus))

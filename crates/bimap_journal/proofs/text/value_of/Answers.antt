use Rattle.std.proofs.Common.{arith, ◌≡◌, ◌∷◌, ◌++◌, ◌∙◌, ap, subst, sym}
use Rattle.std.specs.Prelude.{Some}
use Rattle.std.specs.Str.{IsUtf8}
use Rattle.serde_json.specs.Read.{read as read_json}
use Rattle.std.proofs.lemmas.Grind.{common_steps}
use Rattle.serde_json.specs.View.{view}
use Rattle.bimap_journal.specs.Texts.{checksum, digits}
use Rattle.bimap_journal.proofs.Breaks.{json_is, sum_is}
use Rattle.bimap_journal.proofs.text.value_of.Goals as goal

pub returns-in_default : goal.returns-in_default
returns-in_default c = (
  tt,
  λ value says.
      let same : c.split_at.result.0.now ≡ says.json = c.split_at.ensures.front ∙ json_is c.args.text.now says.json (checksum says.json) says.is in
      c.in_default.ensures.cases.0 (subst IsUtf8 (sym same) says.is_text),
)

pub returns-in-Ok-from_str : goal.returns-in-Ok-from_str
returns-in-Ok-from_str c =
    let json = c.split_at.result.0.now in
    let back = c.split_at.result.1.now in
    let blank_and_sum : back ≡ 32 ∷ digits 8 (checksum json) =
    sum_is back (digits 8 (checksum json)) (omega (arith, c.split_at.ensures.back_len)) c.if-sum-ne32.false (grind (arith, common_steps)) in
    let shown = c.in-Ok.ensures.cases in
    let is : c.args.text.now ≡ json ++ 32 ∷ digits 8 (checksum json) = c.split_at.ensures.by_index.0 ∙ ap (λ xs. json ++ xs) blank_and_sum in
    (record { json = json; is = is; is_text = shown.1; is_read = subst (λ xs. read_json xs ≡ Some (view c.in-Ok-from_str.value)) shown.0 c.in-Ok-from_str.ensures.ok }, tt)

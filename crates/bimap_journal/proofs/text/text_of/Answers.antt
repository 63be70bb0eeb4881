use Rattle.std.proofs.Common.{arith, ◌≡◌, ◌∷◌, ◌++◌, subst, sym}
use Rattle.std.specs.Prelude.{Contains, Some}
use Rattle.std.specs.Str.{IsUtf8}
use Rattle.std.proofs.lemmas.Grind.{common_steps}
use Rattle.std.proofs.lemmas.Str.{IsUtf8-had}
use Rattle.serde_json.specs.Read.{read as read_json}
use Rattle.serde_json.specs.View.{view}
use Rattle.bimap_journal.specs.Texts.{checksum, digits}
use Rattle.bimap_journal.proofs.Breaks.{none_found, none_in_text}
use Rattle.bimap_journal.proofs.text.text_of.Goals as goal

pub returns-clause-says : goal.returns-clause-says
returns-clause-says c =
    let shown = sym c.as_bytes-json.ensures.value in
    record {
      json = c.as_bytes-json.result.now;
      is = grind (arith, common_steps);
      is_text = subst IsUtf8 shown (IsUtf8-had _ c.in_ok-json.json.ok);
      is_read = subst (λ xs. read_json xs ≡ Some (view c.args.value.now)) shown (c.in_ok-json.ensures.reads_back c.requires);
    }

pub returns-clause-unbroken : goal.returns-clause-unbroken
returns-clause-unbroken c =
    let json = c.as_bytes-json.result.now in
    let is : c.extend_from_slice-2.new.self.items ≡ json ++ 32 ∷ digits 8 (checksum json) = grind (arith, common_steps) in
    subst (λ xs. ¬ Contains xs 10) (sym is) (none_in_text json (checksum json) (none_found json c.contains.result c.contains.ensures.cases c.if-contains.false))

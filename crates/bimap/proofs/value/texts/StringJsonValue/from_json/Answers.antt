use Rattle.std.proofs.Common.{◌≡◌, Some, rules}
use Rattle.serde_json.specs.Find.{as_str}
use Rattle.serde_json.specs.View.{view}
use Rattle.bimap.proofs.JsonTexts.{read_text_of}
use Rattle.bimap.proofs.value.texts.StringJsonValue.from_json.Goals as goal

pub returns : goal.returns
returns c =
    let is : Some c.in_ok-ok_or.field-0.now ≡ as_str (view c.args.value.now) = search rules in
    read_text_of (view c.args.value.now) c.in_ok-ok_or.field-0.now c.from_key.result is c.from_key.ensures.reads

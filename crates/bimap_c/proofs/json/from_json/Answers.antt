use Rattle.std.proofs.Common.{refl, Ok, Err}
use Rattle.bimap_c.proofs.Texts.{read_as, unread_as}
use Rattle.bimap_c.proofs.json.from_json.Goals as goal

pub returns-in-Ok-read_text_with : goal.returns-in-Ok-read_text_with
returns-in-Ok-read_text_with g c = record {
  texts = λ _. (Ok (g.B.Bijection.holding c.in-Ok-read_text_with.map), read_as g.B.Bijection.holding _ _ _ c.in-Ok-read_text_with.map c.requires.room c.in-Ok.ensures.cases.0 c.in-Ok-read_text_with.ensures.read, (refl, refl, refl));
  others = λ no. absurd (no c.in-Ok.ensures.cases.1);
}

pub returns-in-Err : goal.returns-in-Err
returns-in-Err g c = record {
  texts = λ _. (Err c.in-Err.fault, unread_as g.B.Bijection.holding _ _ _ c.in-Err.fault c.requires.room c.in-Ok.ensures.cases.0 c.in-Err.ensures.read, (c.read_status.ensures, refl));
  others = λ no. absurd (no c.in-Ok.ensures.cases.1);
}

use Rattle.std.proofs.Common.{sym, ◌∙◌, true≢false}
use Rattle.std.specs.Cmp.Lexicographic.{same_text}
use Rattle.std.proofs.lemmas.Slice.Eq.{bytes_eq-Decides}
use Rattle.demo_any.proofs.texts.seat_named.Goals as goal

pub returns-in-Some-clause-seated : goal.returns-in-Some-clause-seated
returns-in-Some-clause-seated c =
    let f = c.in-Some.ensures.found in
    (f.0, f.1, same_text _ _ (sym f.2))

pub returns-in-None-clause-unknown : goal.returns-in-None-clause-unknown
returns-in-None-clause-unknown c p held same =
    true≢false (sym ((bytes_eq-Decides _ _).1 same) ∙ c.in-None.ensures.none p held)

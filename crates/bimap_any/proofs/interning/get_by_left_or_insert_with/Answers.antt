use Rattle.std.proofs.Common.{rules, ◌∙◌, sym, true≢false}
use Rattle.bimap_any.proofs.Interned.{interned}
use Rattle.bimap_any.proofs.interning.get_by_left_or_insert_with.Goals as goal

pub returns-in-Ok-clause-answer : goal.returns-in-Ok-clause-answer
returns-in-Ok-clause-answer g c = (c.make-right.result, interned g.L.PartialEq.eq g.R.PartialEq.eq _ (c.args.left, c.make-right.result) _ (rw c.in-Ok.is at c.insert_no_overwrite.ensures.answer) g.met.L.Eq.laws c.in_default.ensures.none, λ _. c.make-right.ensures)

pub returns-in-Some-clause-answer : goal.returns-in-Some-clause-answer
returns-in-Some-clause-answer g c =
    let found = rw c.in-Some.is at c.get_by_left.ensures.found in
    (c.in-Some.held.now, search rules, λ lacks. absurd (true≢false (sym found.2 ∙ lacks (found.0, c.in-Some.held.now) found.1)))

use Rattle.std.proofs.Common.{◌∙◌, sym, true≢false}
use Rattle.bimap_any.proofs.Sides.{removal_inverse}
use Rattle.bimap_any.proofs.inverse.undo.take.Goals as goal

pub unreachable-requires : goal.unreachable-requires
unreachable-requires g c =
    let (q, m, e) = c.requires.held in
    let h = rw (sym c.exchange_pair.ensures ∙ c.in-None.is) at (removal_inverse c.remove_by_right.ensures.answer) in
    true≢false (sym e ∙ h.none q m)

pub returns-clause-answer : goal.returns-clause-answer
returns-clause-answer g c = rw (sym c.exchange_pair.ensures ∙ c.in-Some.is) at (removal_inverse c.remove_by_right.ensures.answer)

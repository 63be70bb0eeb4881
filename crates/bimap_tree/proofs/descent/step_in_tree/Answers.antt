use Rattle.std.proofs.Common.{refl, rules}
use Rattle.bimap_tree.proofs.Descents.{goes_top, goes_down, goes_end, wants}
use Rattle.bimap_tree.proofs.descent.step_in_tree.Goals as goal

pub returns-clause-goes : goal.returns-clause-goes
returns-clause-goes g c =
    let on = goes_down _ _ _ _ _ _ _ _ _ (goes_top _ _ _ _ _ _) _ c.in-Some-false.is-0 _ c.cell-cell.ensures.node _ (wants _ _ _ _ c.ordering-ordering.ensures.ordering c.is_eq.ensures c.if-is_eq.false c.is_lt-direction.ensures) _ c.child-descent.ensures c.note.new.self c.note.ensures.noted in
    goes_end _ _ _ _ _ _ _ _ _ on _ refl _ refl

pub returns-then-is_eq-clause-comparisons : goal.returns-then-is_eq-clause-comparisons
returns-then-is_eq-clause-comparisons g c = search rules

pub returns-then-is_eq-clause-touches : goal.returns-then-is_eq-clause-touches
returns-then-is_eq-clause-touches g c = search rules

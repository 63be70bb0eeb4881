use Rattle.std.proofs.Common.{arith, length, map, ap, ◌≤◌, ◌∙◌}
use Rattle.std.proofs.lemmas.List.{length-map, take_all}
use Rattle.bimap_base.specs.NodesInCells.{narrow_node, wide_node}
use Rattle.bimap_base.proofs.NodesInCells.{get-mapped, get-resized}
use Rattle.bimap_base.proofs.cells.widened.Goals as goal

pub returns-clause-kept : goal.returns-clause-kept
returns-clause-kept c place h =
    let i = c.loop-cell.invariant in
    let fits : length c.loop-cell.wide.items ≤ c.args.to = omega (arith, c.requires, ap length c.narrow.view_is, length-map c.narrow.inside.cells.items narrow_node, c.loop-cell-test.false, i.count, i.room) in
    get-mapped wide_node c.loop-cell.wide.items _ (get-resized _ _ _ c.args.to fits c.in-Ok-resize.ensures.items) _
    (i.same ∙ ap (λ z. map narrow_node z) (take_all _ _ (omega arith)) ∙ ap (λ z. map narrow_node z) c.deref-cell-items.ensures.value ∙ c.narrow.view_is) place h

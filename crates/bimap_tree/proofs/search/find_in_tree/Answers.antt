use Rattle.std.proofs.Common.{arith, true}
use Rattle.bimap_tree.proofs.Descents.{costs_none, costs_on, costs_last, costs_end, cell_within, falls, finds_top, finds_none, finds_live, finds_here, finds_on, wants, is_equal, is_less}
use Rattle.bimap_tree.proofs.Removes.{no_child}
use Rattle.bimap_tree.proofs.search.find_in_tree.Goals as goal

pub loop-root-init : goal.loop-root-init
loop-root-init g c = record { finds = finds_top _ _ _ _; compared = costs_none _ _ 1 _; touched = costs_none _ _ 1 _ }

pub cell-cell-requires : goal.cell-cell-requires
cell-cell-requires g c = cell_within _ _ _ _ _ _ c.loop-root.invariant.touched _ c.in-Some.is _ c.requires.1.tree

pub compare-ordering-requires : goal.compare-ordering-requires
compare-ordering-requires g c = record { live = finds_live _ _ _ _ _ c.loop-root.invariant.finds _ c.in-Some.is _ c.cell-cell.ensures.node _ c.requires.1 }

pub returns-then-is_eq-clause-found : goal.returns-then-is_eq-clause-found
returns-then-is_eq-clause-found g c =
    finds_here _ _ _ _ _ c.loop-root.invariant.finds _ c.in-Some.is _ c.cell-cell.ensures.node (is_equal _ _ _ c.compare-ordering.ensures.answer c.is_eq.ensures c.if-is_eq.true)

pub returns-then-is_eq-clause-comparisons : goal.returns-then-is_eq-clause-comparisons
returns-then-is_eq-clause-comparisons g c t h = omega (arith, costs_last _ _ _ _ _ _ c.loop-root.invariant.compared _ c.in-Some.is _ c.cell-cell.ensures.node true (g.M.Meter.comparisons c.compare-ordering.new.meter) (omega arith) t h)

pub returns-then-is_eq-clause-touches : goal.returns-then-is_eq-clause-touches
returns-then-is_eq-clause-touches g c t h = omega (arith, costs_last _ _ _ _ _ _ c.loop-root.invariant.touched _ c.in-Some.is _ c.cell-cell.ensures.node true (g.M.Meter.touches c.compare-ordering.new.meter) (omega arith) t h)

pub loop-root-preserved-then-direction : goal.loop-root-preserved-then-direction
loop-root-preserved-then-direction g c =
    record {
      finds = finds_on _ _ _ _ _ c.loop-root.invariant.finds _ c.in-Some.is _ c.cell-cell.ensures.node true (is_less _ _ _ c.compare-ordering.ensures.answer c.is_lt-direction.ensures c.if-direction.true) _ c.child-root.ensures;
      compared = costs_on _ _ _ _ _ _ c.loop-root.invariant.compared _ c.in-Some.is _ c.cell-cell.ensures.node true _ c.child-root.ensures _ (omega arith);
      touched = costs_on _ _ _ _ _ _ c.loop-root.invariant.touched _ c.in-Some.is _ c.cell-cell.ensures.node true _ c.child-root.ensures _ (omega arith);
    }

pub loop-root-smaller : goal.loop-root-smaller
loop-root-smaller g c = falls _ _ _ _ _ _ c.loop-root.invariant.touched _ c.in-Some.is _ c.cell-cell.ensures.node _ _ c.child-root-else-is_far.ensures _ c.requires.1.tree

pub loop-root-preserved : goal.loop-root-preserved
loop-root-preserved g c =
    record {
      finds = finds_on _ _ _ _ _ c.loop-root.invariant.finds _ c.in-Some.is _ c.cell-cell.ensures.node _ (wants _ _ _ _ c.compare-ordering.ensures.answer c.is_eq.ensures c.if-is_eq.false c.is_lt-direction.ensures) _ c.child-root-else-is_far.ensures;
      compared = costs_on _ _ _ _ _ _ c.loop-root.invariant.compared _ c.in-Some.is _ c.cell-cell.ensures.node _ _ c.child-root-else-is_far.ensures _ (omega arith);
      touched = costs_on _ _ _ _ _ _ c.loop-root.invariant.touched _ c.in-Some.is _ c.cell-cell.ensures.node _ _ c.child-root-else-is_far.ensures _ (omega arith);
    }

pub returns-then-is_none-clause-found : goal.returns-then-is_none-clause-found
returns-then-is_none-clause-found g c =
    let on = finds_on _ _ _ _ _ c.loop-root.invariant.finds _ c.in-Some.is _ c.cell-cell.ensures.node true (is_less _ _ _ c.compare-ordering.ensures.answer c.is_lt-direction.ensures c.if-direction.true) _ c.child-root.ensures in
    finds_none _ _ _ _ _ on (no_child _ _ c.is_none.ensures c.if-is_none.true)

pub returns-then-is_none-clause-comparisons : goal.returns-then-is_none-clause-comparisons
returns-then-is_none-clause-comparisons g c t h = omega (arith, costs_last _ _ _ _ _ _ c.loop-root.invariant.compared _ c.in-Some.is _ c.cell-cell.ensures.node true (g.M.Meter.comparisons c.compare-ordering.new.meter) (omega arith) t h)

pub returns-then-is_none-clause-touches : goal.returns-then-is_none-clause-touches
returns-then-is_none-clause-touches g c t h = omega (arith, costs_last _ _ _ _ _ _ c.loop-root.invariant.touched _ c.in-Some.is _ c.cell-cell.ensures.node true (g.M.Meter.touches c.compare-ordering.new.meter) (omega arith) t h)

pub returns-in_default-clause-found : goal.returns-in_default-clause-found
returns-in_default-clause-found g c = finds_none _ _ _ _ _ c.loop-root.invariant.finds c.in_default.is

pub returns-in_default-clause-comparisons : goal.returns-in_default-clause-comparisons
returns-in_default-clause-comparisons g c t h = omega (arith, costs_end _ _ _ _ _ _ c.loop-root.invariant.compared t h)

pub returns-in_default-clause-touches : goal.returns-in_default-clause-touches
returns-in_default-clause-touches g c t h = omega (arith, costs_end _ _ _ _ _ _ c.loop-root.invariant.touched t h)

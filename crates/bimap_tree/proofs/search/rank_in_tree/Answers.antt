use Rattle.std.proofs.Common.{arith, ap}
use Rattle.bimap_tree.proofs.Descents.{costs_none, costs_on, costs_end, cell_within, falls, counts_top, counts_none, counts_live, counts_left, counts_below, counts_above, is_less, is_not_less}
use Rattle.bimap_tree.proofs.search.rank_in_tree.Goals as goal
use Rattle.bimap_tree.proofs.search.rank_in_tree.Goals.{then-is_below, else-is_below}

pub loop-root-init : goal.loop-root-init
loop-root-init g c = record { counts = counts_top _ _ _ _; compared = costs_none _ _ 1 _; touched = costs_none _ _ 2 _ }

pub read-node-requires : goal.read-node-requires
read-node-requires g c = cell_within _ _ _ _ _ _ c.loop-root.invariant.touched _ c.in-Some.is _ c.requires.1.tree

pub ordering-requires : goal.ordering-requires
ordering-requires g c = counts_live _ _ _ _ _ _ c.loop-root.invariant.counts _ c.in-Some.is _ c.read-node.ensures.node _ c.requires.1

pub measure-requires : goal.measure-requires
measure-requires g c =
    let (l, stands, fits, more) = counts_left _ _ _ _ _ _ c.loop-root.invariant.counts _ c.in-Some.is _ c.read-node.ensures.node _ c.requires.1 in
    (l, stands)

pub overflow_add-rank : goal.overflow_add-rank
overflow_add-rank g c =
    let (l, stands, fits, more) = counts_left _ _ _ _ _ _ c.loop-root.invariant.counts _ c.in-Some.is _ c.read-node.ensures.node _ c.requires.1 in
    omega (arith, fits, (c.measure.ensures.measured l stands).size_is)

pub overflow_add-rank-then-is_below : goal.overflow_add-rank-then-is_below
overflow_add-rank-then-is_below g c =
    let (l, stands, fits, more) = counts_left _ _ _ _ _ _ c.loop-root.invariant.counts _ c.in-Some.is _ c.read-node.ensures.node _ c.requires.1 in
    omega (arith, more (is_less _ _ _ c.ordering.ensures.ordering c.is_lt-is_below.ensures c.if-is_below.true), (c.measure.ensures.measured l stands).size_is)

pub loop-root-smaller : goal.loop-root-smaller
loop-root-smaller g c = falls _ _ _ _ _ _ c.loop-root.invariant.touched _ c.in-Some.is _ c.read-node.ensures.node _ _ c.child-root.ensures _ c.requires.1.tree

pub loop-root-preserved : goal.loop-root-preserved
loop-root-preserved g c =
    elim c.if-is_below.branch [
      | then-is_below w ↦ record {
        counts = counts_below _ _ _ _ _ _ c.loop-root.invariant.counts _ c.in-Some.is _ c.read-node.ensures.node _ _ c.child-root.ensures _ w.if-is_below.true (is_less _ _ _ c.ordering.ensures.ordering c.is_lt-is_below.ensures w.if-is_below.true) w.measure.result.size (λ l h. (w.measure.ensures.measured l h).size_is) w.rank-is;
        compared = costs_on _ _ _ _ _ _ c.loop-root.invariant.compared _ c.in-Some.is _ c.read-node.ensures.node _ _ c.child-root.ensures _ (omega (arith, ap g.M.Meter.comparisons w.meter-is));
        touched = costs_on _ _ _ _ _ _ c.loop-root.invariant.touched _ c.in-Some.is _ c.read-node.ensures.node _ _ c.child-root.ensures _ (omega (arith, ap g.M.Meter.touches w.meter-is));
      }
      | else-is_below w ↦ record {
        counts = counts_above _ _ _ _ _ _ c.loop-root.invariant.counts _ c.in-Some.is _ c.read-node.ensures.node _ _ c.child-root.ensures _ w.if-is_below.false (is_not_less _ _ _ c.ordering.ensures.ordering c.is_lt-is_below.ensures w.if-is_below.false) w.rank-is;
        compared = costs_on _ _ _ _ _ _ c.loop-root.invariant.compared _ c.in-Some.is _ c.read-node.ensures.node _ _ c.child-root.ensures _ (omega (arith, ap g.M.Meter.comparisons w.meter-is));
        touched = costs_on _ _ _ _ _ _ c.loop-root.invariant.touched _ c.in-Some.is _ c.read-node.ensures.node _ _ c.child-root.ensures _ (omega (arith, ap g.M.Meter.touches w.meter-is));
      }
    ]

pub returns-clause-rank : goal.returns-clause-rank
returns-clause-rank g c = counts_none _ _ _ _ _ _ c.loop-root.invariant.counts c.in_default.is

pub returns-clause-comparisons : goal.returns-clause-comparisons
returns-clause-comparisons g c t h = omega (arith, costs_end _ _ _ _ _ _ c.loop-root.invariant.compared t h)

pub returns-clause-touches : goal.returns-clause-touches
returns-clause-touches g c t h = omega (arith, costs_end _ _ _ _ _ _ c.loop-root.invariant.touched t h)

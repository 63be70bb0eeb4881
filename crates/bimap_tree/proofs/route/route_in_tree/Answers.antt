use Rattle.std.proofs.Common.{arith, true, ap, sym, ◌∙◌}
use Rattle.bimap_tree.proofs.Descents.{costs_none, costs_on, costs_last, costs_end, cell_within, falls, goes_top, goes_none, goes_end, goes_live, goes_deep, goes_here, goes_down, goes_right, reads_within, reads_alone, wants, is_equal, is_less}
use Rattle.bimap_tree.specs.Notes.{step_at}
use Rattle.bimap_tree.specs.Tree.{height}
use Rattle.bimap_tree.proofs.Removes.{no_child}
use Rattle.bimap_tree.proofs.route.route_in_tree.Goals as goal
use Rattle.bimap_tree.proofs.route.route_in_tree.Goals.{in-Some+then-is_eq, in-Some+else-is_eq+then-is_far+then-direction+then-is_none, in_default}

pub loop-root-init : goal.loop-root-init
loop-root-init g c = record { goes = goes_top _ _ _ _ _ _; compared = costs_none _ _ 1 _; touched = costs_none _ _ _ _ }

pub cell-cell-requires : goal.cell-cell-requires
cell-cell-requires g c = cell_within _ _ _ _ _ _ c.loop-root.invariant.touched _ c.in-Some.is _ c.requires.2.seek.tree

pub ordering-ordering-requires : goal.ordering-ordering-requires
ordering-ordering-requires g c = goes_live _ _ _ _ _ _ _ _ _ c.loop-root.invariant.goes _ c.in-Some.is _ c.cell-cell.ensures.node _ _ c.requires.2

pub note-requires : goal.note-requires
note-requires g c = goes_deep _ _ _ _ _ _ _ _ _ c.loop-root.invariant.goes _ c.in-Some.is _ c.cell-cell.ensures.node _ _ c.requires.2

pub overflow_add-depth : goal.overflow_add-depth
overflow_add-depth g c = omega (arith, goes_deep _ _ _ _ _ _ _ _ _ c.loop-root.invariant.goes _ c.in-Some.is _ c.cell-cell.ensures.node _ _ c.requires.2)

pub loop-root-preserved-then-direction : goal.loop-root-preserved-then-direction
loop-root-preserved-then-direction g c =
    record {
      goes = goes_right _ _ _ _ _ _ _ _ _ c.loop-root.invariant.goes _ c.in-Some.is _ c.cell-cell.ensures.node _ c.if-direction.true (is_less _ _ _ c.ordering-ordering.ensures.ordering c.is_lt-direction.ensures c.if-direction.true) _ c.child-root.ensures _ c.note.ensures.noted;
      compared = costs_on _ _ _ _ _ _ c.loop-root.invariant.compared _ c.in-Some.is _ c.cell-cell.ensures.node true _ c.child-root.ensures _ (omega arith);
      touched = costs_on _ _ _ _ _ _ c.loop-root.invariant.touched _ c.in-Some.is _ c.cell-cell.ensures.node true _ c.child-root.ensures _ (omega arith);
    }

pub loop-root-smaller : goal.loop-root-smaller
loop-root-smaller g c = falls _ _ _ _ _ _ c.loop-root.invariant.touched _ c.in-Some.is _ c.cell-cell.ensures.node _ _ c.child-root-else-is_far.ensures _ c.requires.2.seek.tree

pub loop-root-preserved : goal.loop-root-preserved
loop-root-preserved g c =
    record {
      goes = goes_down _ _ _ _ _ _ _ _ _ c.loop-root.invariant.goes _ c.in-Some.is _ c.cell-cell.ensures.node _ (wants _ _ _ _ c.ordering-ordering.ensures.ordering c.is_eq.ensures c.if-is_eq.false c.is_lt-direction.ensures) _ c.child-root-else-is_far.ensures _ c.note.ensures.noted;
      compared = costs_on _ _ _ _ _ _ c.loop-root.invariant.compared _ c.in-Some.is _ c.cell-cell.ensures.node _ _ c.child-root-else-is_far.ensures _ (omega arith);
      touched = costs_on _ _ _ _ _ _ c.loop-root.invariant.touched _ c.in-Some.is _ c.cell-cell.ensures.node _ _ c.child-root-else-is_far.ensures _ (omega arith);
    }

pub returns : goal.returns
returns g c =
    elim c.match-root.branch [
      | in-Some+then-is_eq w ↦ record {
        found = λ path s h. w.root-is ∙ goes_here _ _ _ _ _ _ _ _ _ c.loop-root.invariant.goes _ w.in-Some.is _ w.cell-cell.ensures.node (is_equal _ _ _ w.ordering-ordering.ensures.ordering w.is_eq.ensures w.if-is_eq.true) path s h;
        follows = λ path s h. rw w.depth-is (goes_end _ _ _ _ _ _ _ _ _ c.loop-root.invariant.goes _ (w.root-is ∙ sym w.in-Some.is) _ (ap step_at w.route-is) path s h);
        comparisons = λ t h. omega (arith, ap g.M.Meter.comparisons w.meter-is, costs_last _ _ _ _ _ _ c.loop-root.invariant.compared _ w.in-Some.is _ w.cell-cell.ensures.node true (g.M.Meter.comparisons w.ordering-ordering.new.meter) (omega arith) t h);
        touches = λ t h. omega (arith, reads_within c.args.ahead (height t), ap g.M.Meter.touches w.meter-is, costs_last _ _ _ _ _ _ c.loop-root.invariant.touched _ w.in-Some.is _ w.cell-cell.ensures.node true (g.M.Meter.touches w.ordering-ordering.new.meter) (omega arith) t h);
        alone = λ off t h. omega (arith, reads_alone c.args.ahead (height t) off, ap g.M.Meter.touches w.meter-is, costs_last _ _ _ _ _ _ c.loop-root.invariant.touched _ w.in-Some.is _ w.cell-cell.ensures.node true (g.M.Meter.touches w.ordering-ordering.new.meter) (omega arith) t h);
      }
      | in-Some+else-is_eq+then-is_far+then-direction+then-is_none w ↦
          let on = goes_right _ _ _ _ _ _ _ _ _ c.loop-root.invariant.goes _ w.in-Some.is _ w.cell-cell.ensures.node _ w.if-direction.true (is_less _ _ _ w.ordering-ordering.ensures.ordering w.is_lt-direction.ensures w.if-direction.true) _ w.child-root.ensures w.note.new.self w.note.ensures.noted in
          let none = no_child _ _ w.is_none.ensures w.if-is_none.true in
          record {
            found = λ path s h. w.root-is ∙ none ∙ goes_none _ _ _ _ _ _ _ _ _ on none path s h;
            follows = λ path s h. rw w.depth-is (goes_end _ _ _ _ _ _ _ _ _ on _ w.root-is _ (ap step_at w.route-is) path s h);
            comparisons = λ t h. omega (arith, ap g.M.Meter.comparisons w.meter-is, costs_last _ _ _ _ _ _ c.loop-root.invariant.compared _ w.in-Some.is _ w.cell-cell.ensures.node true (g.M.Meter.comparisons w.ordering-ordering.new.meter) (omega arith) t h);
            touches = λ t h. omega (arith, reads_within c.args.ahead (height t), ap g.M.Meter.touches w.meter-is, costs_last _ _ _ _ _ _ c.loop-root.invariant.touched _ w.in-Some.is _ w.cell-cell.ensures.node true (g.M.Meter.touches w.ordering-ordering.new.meter) (omega arith) t h);
            alone = λ off t h. omega (arith, reads_alone c.args.ahead (height t) off, ap g.M.Meter.touches w.meter-is, costs_last _ _ _ _ _ _ c.loop-root.invariant.touched _ w.in-Some.is _ w.cell-cell.ensures.node true (g.M.Meter.touches w.ordering-ordering.new.meter) (omega arith) t h);
          }
      | in_default w ↦ record {
        found = λ path s h. w.root-is ∙ w.in_default.is ∙ goes_none _ _ _ _ _ _ _ _ _ c.loop-root.invariant.goes w.in_default.is path s h;
        follows = λ path s h. rw w.depth-is (goes_end _ _ _ _ _ _ _ _ _ c.loop-root.invariant.goes _ w.root-is _ (ap step_at w.route-is) path s h);
        comparisons = λ t h. omega (arith, ap g.M.Meter.comparisons w.meter-is, costs_end _ _ _ _ _ _ c.loop-root.invariant.compared t h);
        touches = λ t h. omega (arith, reads_within c.args.ahead (height t), ap g.M.Meter.touches w.meter-is, costs_end _ _ _ _ _ _ c.loop-root.invariant.touched t h);
        alone = λ off t h. omega (arith, reads_alone c.args.ahead (height t) off, ap g.M.Meter.touches w.meter-is, costs_end _ _ _ _ _ _ c.loop-root.invariant.touched t h);
      }
    ]

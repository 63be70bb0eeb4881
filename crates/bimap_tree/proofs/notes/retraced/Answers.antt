use Rattle.std.proofs.Common.{refl, arith, ◌∙◌}
use Rattle.bimap_tree.proofs.Retracing.{retraces_none, retraces_end, retraces_place, retraces_within, retraces_on}
use Rattle.bimap_tree.proofs.notes.retraced.Goals as goal

pub loop-depth-init : goal.loop-depth-init
loop-depth-init g c = record { retraces = retraces_none _ _ _ _; length = c.depth.ensures; compared = refl; touched = omega arith }

pub unreachable-requires : goal.unreachable-requires
unreachable-requires g c = retraces_place _ _ _ _ _ _ c.loop-depth.invariant.retraces (omega (arith, c.depth.ensures)) _ _ c.requires.2 c.in_default.is

pub cell-requires : goal.cell-requires
cell-requires g c = retraces_within _ _ _ _ _ _ c.loop-depth.invariant.retraces (omega (arith, c.depth.ensures)) _ c.in-Some.is _ _ c.requires.2

pub loop-depth-preserved : goal.loop-depth-preserved
loop-depth-preserved g c =
    record {
      retraces = retraces_on _ _ _ _ _ _ c.loop-depth.invariant.retraces (omega (arith, c.depth.ensures)) _ c.in-Some.is _ c.cell.ensures.node _ c.step-direction.ensures _ c.child-root.ensures _ c.note.ensures.noted refl;
      length = c.note.ensures.depth ∙ c.loop-depth.invariant.length;
      compared = omega arith;
      touched = omega arith;
    }

pub returns-clause-notes : goal.returns-clause-notes
returns-clause-notes g c = retraces_end _ _ _ _ _ _ c.loop-depth.invariant.retraces c.loop-depth.invariant.length (omega (arith, c.depth.ensures))

pub returns-clause-comparisons : goal.returns-clause-comparisons
returns-clause-comparisons g c = c.loop-depth.invariant.compared

pub returns-clause-touches : goal.returns-clause-touches
returns-clause-touches g c = omega (arith, c.depth.ensures)

use Rattle.std.proofs.Common.{arith, refl}
use Rattle.bimap_tree.proofs.Descents.{costs_none, costs_on, costs_end, cell_within, falls}
use Rattle.bimap_tree.proofs.EndRoutes.{notes_none, notes_deep, notes_next, notes_down, notes_end}
use Rattle.bimap_tree.proofs.route.note_end.Goals as goal

pub loop-root-init : goal.loop-root-init
loop-root-init g c = record { notes = notes_none _ _ _ _ _; compared = refl; touched = costs_none _ _ _ _ }

pub note-requires : goal.note-requires
note-requires g c = notes_deep _ _ _ _ _ _ _ _ _ c.loop-root.invariant.notes _ c.in-Some.is _ _ c.requires.2

pub overflow_add-depth : goal.overflow_add-depth
overflow_add-depth g c = omega (arith, notes_deep _ _ _ _ _ _ _ _ _ c.loop-root.invariant.notes _ c.in-Some.is _ _ c.requires.2)

pub cell-cell-requires : goal.cell-cell-requires
cell-cell-requires g c = cell_within _ _ _ _ _ _ c.loop-root.invariant.touched _ c.in-Some.is _ c.requires.2.tree

pub loop-root-smaller : goal.loop-root-smaller
loop-root-smaller g c = falls _ _ _ _ _ _ c.loop-root.invariant.touched _ c.in-Some.is _ c.cell-cell.ensures.node _ _ c.child-root.ensures _ c.requires.2.tree

pub loop-root-preserved : goal.loop-root-preserved
loop-root-preserved g c =
    record {
      notes = notes_next _ _ _ _ _ _ _ _ _ c.loop-root.invariant.notes _ c.in-Some.is _ c.cell-cell.ensures.node _ c.child-root.ensures c.note.new.self c.note.ensures.noted;
      compared = omega arith;
      touched = costs_on _ _ _ _ _ _ c.loop-root.invariant.touched _ c.in-Some.is _ c.cell-cell.ensures.node _ _ c.child-root.ensures _ (omega arith);
    }

pub returns : goal.returns
returns g c = record {
  end = notes_end _ _ _ _ _ _ _ _ _ c.loop-root.invariant.notes c.in_default.is _ refl refl;
  leads = notes_down _ _ _ _ _ _ _ _ _ c.loop-root.invariant.notes c.in_default.is _ refl refl;
  comparisons = c.loop-root.invariant.compared;
  touches = λ s h. omega (arith, costs_end _ _ _ _ _ _ c.loop-root.invariant.touched s h);
}

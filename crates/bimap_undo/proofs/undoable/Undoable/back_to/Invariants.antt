use Rattle.std.proofs.Common.{◌≡◌, ◌≤◌, length}
use Rattle.bimap_undo.specs.Marks.{marked, HasMarks, KeepsMarks}
use Rattle.bimap_undo.proofs.undoable.Undoable.back_to.Given as goal

-- The remaining marks still stand for the same sets.
abbrev pub invariant-loop-self : goal.invariant-loop-self
invariant-loop-self g l = record {
  above : l.mark ≤ length l.self-inside.changes.items;
  marks : HasMarks g.L.PartialEq.eq g.R.PartialEq.eq (marked (g.B.Bijection.holding l.self-inside.bimap) l.self-inside.changes.items);
  kept : KeepsMarks g.L.PartialEq.eq g.R.PartialEq.eq l.fn.self (length l.self-inside.changes.items) (marked (g.B.Bijection.holding l.self-inside.bimap) l.self-inside.changes.items);
  room : (g.B.Bijection.holding l.self-inside.bimap).room ≡ l.fn.self.held.room;
}

abbrev pub decreases-loop-self : goal.decreases-loop-self
decreases-loop-self g l = length l.self-inside.changes.items

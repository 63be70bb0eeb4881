use Rattle.std.proofs.Common.{◌≡◌, ◌≤◌, ◌++◌, length, vec_len, Contains}
use Rattle.std.specs.Vec.{vec_capacity}
use Rattle.std.specs.Vec.Iter.{into_iter_items}
use Rattle.bimap_undo.specs.Marks.{KeepsMarks}
use Rattle.bimap_undo.specs.Operations.{StaysAbove, ArePerformed}
use Rattle.bimap_undo.proofs.operations.perform_all.Given as goal

-- The operations so far were performed.
-- No remaining operation goes below the mark.
-- This mark and the lower ones still stand for the same sets.
abbrev pub invariant-loop-operation : goal.invariant-loop-operation
invariant-loop-operation g l = record {
  front : l.fn.operations.items ≡ l.yielded ++ into_iter_items l.operation-iterator;
  long : length l.outcomes.items ≡ length l.yielded;
  capacity : vec_capacity l.outcomes ≡ vec_len l.fn.operations;
  performed : ArePerformed g.L.PartialEq.eq g.R.PartialEq.eq l.fn.undoable l.yielded l.outcomes.items l.undoable;
  above : (operation : _) → Contains (into_iter_items l.operation-iterator) operation → StaysAbove l.mark operation;
  recorded : l.mark ≤ length l.undoable.entries;
  kept : KeepsMarks g.L.PartialEq.eq g.R.PartialEq.eq l.fn.undoable l.mark l.undoable;
  room : l.fn.undoable.held.room ≤ l.undoable.held.room;
}

use Rattle.std.proofs.Common.{◌≡◌, ◌≤◌, ◌+◌, ◌^◌, ◌-◌, length, min}
use Rattle.bimap.specs.Sets.{IsApart}
use Rattle.bimap.proofs.Extending.{ArePutIn}
use Rattle.bimap_undo.specs.Marks.{KeepsMarks}
use Rattle.bimap_undo.proofs.undoable.Undoable.insert_all.Given as goal

-- The items so far were inserted and recorded. The earlier marks still stand for the same sets.
abbrev pub invariant-loop-left : goal.invariant-loop-left
invariant-loop-left g l = record {
  callable : (goal.iterator-loop-left g).can_next l.left-iterator;
  ends : (goal.iterator-loop-left g).is_finite l.left-iterator;
  taken : l.taken ≡ min (length l.yielded) (2 ^ 64 - 1);
  apart : IsApart g.L.PartialEq.eq g.R.PartialEq.eq l.self.held.pairs;
  fits : length l.self.held.pairs ≤ l.self.held.room;
  put_in : ArePutIn g.L.PartialEq.eq g.R.PartialEq.eq l.fn.self.held l.yielded l.fn.policy l.self.held;
  recorded : length l.self.entries ≡ length l.fn.self.entries + length l.yielded;
  kept : KeepsMarks g.L.PartialEq.eq g.R.PartialEq.eq l.fn.self (length l.fn.self.entries) l.self;
}

use Rattle.std.proofs.Common.{◌≤◌, ◌+◌, drop, take, List, ℕ, length}
use Rattle.std.specs.Prelude.{Contains}
use Rattle.std.specs.List.{AllZip, zip}
use Rattle.std.specs.Vec.{vec_capacity}
use Rattle.std.specs.declared.convert.Infallible.{Infallible}
use Rattle.bimap.specs.Holding.{Holding}
use Rattle.bimap.specs.declared.call.Call.{Call}
use Rattle.bimap_journal.specs.Changes.{AreKept}
use Rattle.bimap_journal.specs.Batches.{space, IsRun, IsLineOfCall}
use Rattle.bimap_journal.proofs.Batches.{IsPart}
use Rattle.bimap_journal.proofs.batch.fill.Given as goal

-- There is space for the lines to come. The lines so far leave the pairs that the calls so far left.
abbrev pub invariant-loop-i : goal.invariant-loop-i
invariant-loop-i g l = record {
  space : length l.group.items + space (drop l.i l.lines.items) ≤ vec_capacity l.group;
  part : (old new : Holding g.row.L.Denot g.row.R.Denot) (calls : List (Call g.row.L.Denot g.row.R.Denot Infallible)) (texts : List (List ℕ))
      → AllZip (λ call line. IsLineOfCall g.L.PartialEq.eq g.R.PartialEq.eq g.L.Stored.reads g.R.Stored.reads call line.items) calls l.lines.items
      → IsRun g.L.PartialEq.eq g.R.PartialEq.eq old calls l.replies.items new → AreKept g.L.PartialEq.eq g.R.PartialEq.eq g.L.Stored.reads g.R.Stored.reads texts (Contains old.pairs)
      → IsPart g.L.Stored.reads g.R.Stored.reads g.L.PartialEq.eq g.R.PartialEq.eq g.met.L.Eq.laws g.met.R.Eq.laws (Contains old.pairs) texts (take l.i (zip calls l.replies.items)) l.group.items;
}

use Rattle.std.proofs.Common.{take}
use Rattle.std.specs.List.{AllZip}
use Rattle.bimap_journal.specs.Batches.{IsLineOfCall}
use Rattle.bimap_journal.proofs.batch.lines_of.Given as goal

abbrev pub invariant-loop-call : goal.invariant-loop-call
invariant-loop-call g l =
    AllZip (λ call line. IsLineOfCall g.L.PartialEq.eq g.R.PartialEq.eq g.L.Stored.reads g.R.Stored.reads call line.items) (take l.call-index l.calls.items) l.lines.items

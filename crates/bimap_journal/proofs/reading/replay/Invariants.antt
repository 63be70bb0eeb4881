use Rattle.std.proofs.Common.{length}
use Rattle.std.specs.Prelude.{Contains}
use Rattle.bimap_journal.specs.Reading.{IsReadUpTo}
use Rattle.bimap_journal.proofs.reading.replay.Given as goal

abbrev pub invariant-loop-lines : goal.invariant-loop-lines
invariant-loop-lines g l =
    IsReadUpTo g.L.PartialEq.eq g.R.PartialEq.eq g.L.Stored.reads g.R.Stored.reads l.bytes l.rest (Contains (g.B.Bijection.holding l.map).pairs)

abbrev pub decreases-loop-lines : goal.decreases-loop-lines
decreases-loop-lines g l = length l.rest

use Rattle.std.proofs.Common.{map}
use Rattle.std.specs.Map.Iter.{deref_pair}
use Rattle.bimap_journal.proofs.Listed.{Lists}
use Rattle.bimap_journal.proofs.journaled.compaction.file_of.Given as goal

abbrev pub invariant-loop-left : goal.invariant-loop-left
invariant-loop-left g l = Lists g.L.Stored.reads g.R.Stored.reads g.L.PartialEq.eq g.R.PartialEq.eq (map deref_pair l.yielded) l.file.items

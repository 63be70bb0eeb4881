use Rattle.std.proofs.Common.{◌≡◌, ◌+◌, drop}
use Rattle.bimap_journal.specs.Batches.{space}
use Rattle.bimap_journal.proofs.batch.space_for.Given as goal

-- The bytes so far, and those of the lines to come.
abbrev pub invariant-loop-line : goal.invariant-loop-line
invariant-loop-line l = l.long + space (drop l.line-index l.lines.items) ≡ space l.lines.items + 1

use Rattle.std.proofs.Common.{arith, rules}
use Rattle.bimap_core.proofs.Places.{length-pairs_in}
use Rattle.bimap_core.proofs.table.Table.shrink_to.Goals as goal

pub compact-requires : goal.compact-requires
compact-requires g c = record { room = omega (arith, c.max-to.ensures, c.len.ensures, length-pairs_in c.args.self.now.pairs) }

pub returns-clause-comparisons : goal.returns-clause-comparisons
returns-clause-comparisons g c = c.compact.ensures.comparisons

pub returns-clause-answer : goal.returns-clause-answer
returns-clause-answer g c = search rules

pub returns-then-to-room-clause-answer : goal.returns-then-to-room-clause-answer
returns-then-to-room-clause-answer g c = search rules

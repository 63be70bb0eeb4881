use Rattle.std.proofs.Common.{arith, rules}
use Rattle.bimap_base.proofs.by_order.ByOrderKeys.compare.Goals as goal

pub returns-clause-answer : goal.returns-clause-answer
returns-clause-answer g c = search rules

pub returns-clause-comparisons : goal.returns-clause-comparisons
returns-clause-comparisons g c = omega arith

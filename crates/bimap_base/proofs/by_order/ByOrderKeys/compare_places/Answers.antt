use Rattle.std.proofs.Common.{arith, rules}
use Rattle.bimap_base.proofs.by_order.ByOrderKeys.compare_places.Goals as goal

pub returns-clause-answer : goal.returns-clause-answer
returns-clause-answer g c = search rules

pub returns-clause-touches : goal.returns-clause-touches
returns-clause-touches g c = omega arith

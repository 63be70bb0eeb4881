use Rattle.std.proofs.Common.{arith}
use Rattle.bimap_base.proofs.count.CountMeter.compared.Goals as goal

pub returns-clause-comparisons : goal.returns-clause-comparisons
returns-clause-comparisons c = omega arith

pub returns-clause-touches : goal.returns-clause-touches
returns-clause-touches c = omega arith

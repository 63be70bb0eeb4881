use Rattle.std.proofs.Common.{arith}
use Rattle.std.proofs.lemmas.Grind.{common_steps}
use Rattle.bimap_base.proofs.pairs.Pairs.held.Goals as goal

pub returns : goal.returns
returns g c = grind (arith, common_steps)

use Rattle.std.proofs.Common.{arith}
use Rattle.std.proofs.lemmas.Grind.{common_steps}
use Rattle.bimap_any.proofs.bijection.Bijection.is_empty.Goals as goal

pub returns : goal.returns
returns g c = grind (arith, common_steps)

use Rattle.std.proofs.Common.{arith}
use Rattle.std.proofs.lemmas.Grind.{common_steps}
use Rattle.bimap_base.proofs.pairs.Pairs.at.Goals as goal

pub returns-in-Some-Held : goal.returns-in-Some-Held
returns-in-Some-Held g c = grind (arith, common_steps)

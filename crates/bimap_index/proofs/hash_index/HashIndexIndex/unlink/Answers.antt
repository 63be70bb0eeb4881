use Rattle.std.proofs.Common.{arith}
use Rattle.std.proofs.lemmas.Grind.{common_steps}
use Rattle.bimap_index.proofs.hash_index.HashIndexIndex.unlink.Goals as goal

pub returns-clause-listing : goal.returns-clause-listing
returns-clause-listing g c = grind (arith, common_steps)

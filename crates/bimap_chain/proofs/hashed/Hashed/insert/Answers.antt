use Rattle.std.proofs.Common.{rules}
use Rattle.bimap_chain.proofs.hashed.Hashed.insert.Goals as goal

pub returns : goal.returns
returns g c = search rules

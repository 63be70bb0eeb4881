use Rattle.std.proofs.Common.{rules}
use Rattle.bimap_chain.proofs.hashed.Hashed.clear.Goals as goal

pub returns : goal.returns
returns c = search rules

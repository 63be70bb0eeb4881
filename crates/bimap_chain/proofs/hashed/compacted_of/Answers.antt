use Rattle.std.proofs.Common.{arith}
use Rattle.bimap_chain.proofs.hashed.compacted_of.Goals as goal

pub compacted-requires-clause-few : goal.compacted-requires-clause-few
compacted-requires-clause-few g c = omega arith

use Rattle.std.proofs.Common.{rules}
use Rattle.bimap_index.proofs.hash_index.HashIndexIndex.is_known.Goals as goal

pub returns-clause-found : goal.returns-clause-found
returns-clause-found g c = search rules

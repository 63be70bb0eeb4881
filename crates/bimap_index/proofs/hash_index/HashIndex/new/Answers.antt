use Rattle.std.proofs.Common.{rules}
use Rattle.bimap_index.proofs.hash_index.HashIndex.new.Goals as goal

pub returns-clause-hashed : goal.returns-clause-hashed
returns-clause-hashed g c = search rules

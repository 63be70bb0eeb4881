use Rattle.std.proofs.Common.{rules}
use Rattle.bimap_index.proofs.hash_index.HashIndexEmptyIndex.empty.Goals as goal

pub returns-clause-cells : goal.returns-clause-cells
returns-clause-cells g c = search rules

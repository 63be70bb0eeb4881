use Rattle.std.proofs.Common.{rules}
use Rattle.bimap_index.proofs.ordered.OrderedEmptyIndex.empty.Goals as goal

pub returns-clause-cells : goal.returns-clause-cells
returns-clause-cells g c = search rules

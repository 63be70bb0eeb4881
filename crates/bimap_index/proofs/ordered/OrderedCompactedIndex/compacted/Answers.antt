use Rattle.std.proofs.Common.{rules}
use Rattle.bimap_index.proofs.ordered.OrderedCompactedIndex.compacted.Goals as goal

pub returns : goal.returns
returns g c = search rules

use Rattle.std.proofs.Common.{rules}
use Rattle.bimap_index.proofs.ordered.OrderedIndex.clear.Goals as goal

pub returns-clause-listing : goal.returns-clause-listing
returns-clause-listing g c = search rules

use Rattle.std.proofs.Common.{rules}
use Rattle.bimap_kinds.proofs.compare_ordered.order_of_pair.Goals as goal

pub returns : goal.returns
returns g c = search rules

use Rattle.std.proofs.Common.{rules}
use Rattle.bimap_kinds.proofs.compare_ordered.BijectiveMapOrderedHash.hash.Goals as goal

pub returns : goal.returns
returns g c = search rules

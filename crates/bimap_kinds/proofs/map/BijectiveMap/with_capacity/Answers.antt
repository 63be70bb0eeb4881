use Rattle.std.proofs.Common.{rules}
use Rattle.bimap_kinds.proofs.map.BijectiveMap.with_capacity.Goals as goal

pub returns-clause-room : goal.returns-clause-room
returns-clause-room g c = search rules

use Rattle.std.proofs.Common.{rules}
use Rattle.bimap_kinds.proofs.map.BijectiveMap.from_iter.Goals as goal

pub returns-clause-stopped : goal.returns-clause-stopped
unfolding Rattle.bimap_kinds.specs.HeldTable.held
returns-clause-stopped g c = search rules

pub returns-clause-extended : goal.returns-clause-extended
unfolding Rattle.bimap_kinds.specs.HeldTable.held
returns-clause-extended g c = search rules

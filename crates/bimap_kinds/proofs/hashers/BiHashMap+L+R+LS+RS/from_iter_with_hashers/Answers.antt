use Rattle.std.proofs.Common.{rules}
use Rattle.bimap_kinds.proofs.hashers.BiHashMap+L+R+LS+RS.from_iter_with_hashers.Goals as goal

pub returns-clause-stopped : goal.returns-clause-stopped
unfolding Rattle.bimap_kinds.specs.HeldTable.held
returns-clause-stopped g c = search rules

pub returns-clause-extended : goal.returns-clause-extended
returns-clause-extended g c = search rules

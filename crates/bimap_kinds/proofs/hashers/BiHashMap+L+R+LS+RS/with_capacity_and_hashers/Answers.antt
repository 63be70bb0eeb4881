use Rattle.std.proofs.Common.{rules}
use Rattle.bimap_kinds.proofs.hashers.BiHashMap+L+R+LS+RS.with_capacity_and_hashers.Goals as goal

pub returns-clause-room : goal.returns-clause-room
returns-clause-room g c = search rules

use Rattle.std.proofs.Common.{rules}
use Rattle.bimap_kinds.proofs.ends.BijectiveMap+L+R+I+Ordered.last_by_right_metered.Goals as goal

pub returns-clause-pair : goal.returns-clause-pair
returns-clause-pair g c = search rules

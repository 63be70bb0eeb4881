use Rattle.std.proofs.Common.{rules}
use Rattle.bimap_kinds.proofs.ends.BijectiveMap+L+R+Ordered+J.last_by_left_metered.Goals as goal

pub returns-clause-pair : goal.returns-clause-pair
returns-clause-pair g c = search rules

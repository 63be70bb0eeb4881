use Rattle.std.proofs.Common.{rules}
use Rattle.bimap_kinds.proofs.ends.BijectiveMap+L+R+I+Ordered.pop_first_by_right_metered.Goals as goal

pub returns-clause-taken : goal.returns-clause-taken
returns-clause-taken g c = search rules

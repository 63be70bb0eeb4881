use Rattle.std.proofs.Common.{rules}
use Rattle.bimap_chain.proofs.link.link_to.Goals as goal

pub returns-in-Some-clause-target : goal.returns-in-Some-clause-target
returns-in-Some-clause-target g c = search rules

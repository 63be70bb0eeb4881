use Rattle.std.proofs.Common.{rules}
use Rattle.bimap_base.proofs.count.Count.new.Goals as goal

pub returns-clause-touched : goal.returns-clause-touched
returns-clause-touched c = search rules

use Rattle.std.proofs.Common.{rules}
use Rattle.bimap_base.proofs.policy.OnHeld.refuses.Goals as goal

pub returns-in-Refuse : goal.returns-in-Refuse
returns-in-Refuse c = search rules

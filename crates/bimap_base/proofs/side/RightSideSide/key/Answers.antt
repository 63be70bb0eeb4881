use Rattle.std.proofs.Common.{rules}
use Rattle.bimap_base.proofs.side.RightSideSide.key.Goals as goal

pub returns : goal.returns
returns g c = search rules

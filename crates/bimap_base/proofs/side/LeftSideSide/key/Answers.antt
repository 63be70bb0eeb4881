use Rattle.std.proofs.Common.{rules}
use Rattle.bimap_base.proofs.side.LeftSideSide.key.Goals as goal

pub returns : goal.returns
returns g c = search rules

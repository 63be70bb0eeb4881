use Rattle.std.proofs.Common.{rules}
use Rattle.bimap_base.proofs.overwritten.Overwritten.did_overwrite.Goals as goal

pub returns : goal.returns
returns g c = search rules

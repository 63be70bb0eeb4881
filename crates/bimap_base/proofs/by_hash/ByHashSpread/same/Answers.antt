use Rattle.std.proofs.Common.{rules}
use Rattle.bimap_base.proofs.by_hash.ByHashSpread.same.Goals as goal

pub returns : goal.returns
returns g c = search rules

use Rattle.std.proofs.Common.{rules}
use Rattle.bimap_base.proofs.by_hash.ByHashSpread.hash_query.Goals as goal

pub returns : goal.returns
returns g c = search rules

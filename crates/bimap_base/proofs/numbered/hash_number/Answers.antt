use Rattle.std.proofs.Common.{rules}
use Rattle.bimap_base.proofs.numbered.hash_number.Goals as goal

pub returns : goal.returns
returns g c = search rules

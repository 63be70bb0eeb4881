use Rattle.std.proofs.Common.{rules}
use Rattle.bimap_base.proofs.pairs.Pairs.len.Goals as goal

pub returns-clause-value : goal.returns-clause-value
returns-clause-value g c = search rules

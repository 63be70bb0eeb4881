use Rattle.std.proofs.Common.{rules}
use Rattle.bimap_tree.proofs.batch.Batch.has.Goals as goal

pub returns-then-self-rank : goal.returns-then-self-rank
returns-then-self-rank c = search rules

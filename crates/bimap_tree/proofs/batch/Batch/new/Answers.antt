use Rattle.std.proofs.Common.{rules}
use Rattle.bimap_tree.proofs.batch.Batch.new.Goals as goal

pub returns : goal.returns
returns c = search rules

use Rattle.std.proofs.Common.{rules}
use Rattle.bimap_tree.proofs.batch.Batch.place.Goals as goal

pub returns-clause-kept : goal.returns-clause-kept
returns-clause-kept g c = search rules

pub returns-clause-held : goal.returns-clause-held
returns-clause-held g c = search rules

use Rattle.std.proofs.Common.{rules}
use Rattle.bimap_index.proofs.hash_index.HashIndexIndex.finish.Goals as goal

pub returns-clause-leads : goal.returns-clause-leads
returns-clause-leads g c = search rules

pub returns-clause-is_for : goal.returns-clause-is_for
returns-clause-is_for g c = search rules

use Rattle.std.proofs.Common.{rules}
use Rattle.bimap.proofs.value.texts.CharJsonKey.from_key.Goals as goal

pub returns-clause-takes_no_memory : goal.returns-clause-takes_no_memory
returns-clause-takes_no_memory c = search rules

use Rattle.std.proofs.Common.{rules}
use Rattle.bimap.proofs.value.numbers.I32JsonValue.to_value.Goals as goal

pub returns-clause-json : goal.returns-clause-json
returns-clause-json c = search rules

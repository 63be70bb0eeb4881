use Rattle.std.proofs.Common.{rules}
use Rattle.bimap.proofs.value.numbers.I32JsonValue.of_value.Goals as goal

pub returns : goal.returns
returns c = search rules

use Rattle.std.proofs.Common.{rules}
use Rattle.bimap.proofs.value.numbers.U8JsonKey.to_text.Goals as goal

pub returns-clause-text : goal.returns-clause-text
returns-clause-text c = search rules

use Rattle.std.proofs.Common.{w8, lit≤}
use Rattle.bimap.proofs.JsonNumbers.{signed_read}
use Rattle.bimap.proofs.value.numbers.I8JsonKey.of_text.Goals as goal

pub returns : goal.returns
returns c = signed_read w8 (lit≤ tt) c.args.text.now c.parse_plain.result c.parse_plain.ensures

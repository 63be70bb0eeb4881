use Rattle.std.proofs.Common.{w16, lit≤}
use Rattle.bimap.proofs.JsonNumbers.{signed_read}
use Rattle.bimap.proofs.value.numbers.I16JsonKey.of_text.Goals as goal

pub returns : goal.returns
returns c = signed_read w16 (lit≤ tt) c.args.text.now c.parse_plain.result c.parse_plain.ensures

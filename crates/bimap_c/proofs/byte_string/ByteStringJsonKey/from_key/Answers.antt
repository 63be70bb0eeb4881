use Rattle.std.proofs.Common.{arith, refl}
use Rattle.bimap.proofs.JsonTexts.{bytes_of}
use Rattle.bimap_c.proofs.byte_string.ByteStringJsonKey.from_key.Goals as goal

pub returns-in-None : goal.returns-in-None
returns-in-None c = (record { bytes = bytes_of c.args.alloc c.args.text.now (omega arith) }, refl)

use Rattle.bimap_c.proofs.Texts.{back}
use Rattle.bimap_c.proofs.byte_string.ByteStringJsonKey.to_key.Goals as goal

pub returns-in_ok-from_str-in-Ok-clause-reads_back : goal.returns-in_ok-from_str-in-Ok-clause-reads_back
returns-in_ok-from_str-in-Ok-clause-reads_back c = back c.args.self.now

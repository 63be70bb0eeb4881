use Rattle.std.proofs.Common.{rules, arith}
use Rattle.bimap.proofs.JsonTexts.{reads_string}
use Rattle.bimap.proofs.value.texts.StringJsonKey.from_key.Goals as goal

pub returns-clause-reads : goal.returns-clause-reads
returns-clause-reads c = let string = reads_string c.args.alloc c.args.text.now (omega arith) c.utf8.text in search rules

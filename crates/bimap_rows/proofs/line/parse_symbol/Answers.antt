use Rattle.bimap_rows.proofs.Words.{space_no_symbol}
use Rattle.bimap_rows.proofs.line.parse_symbol.Goals as goal

pub returns-in-Ok-eq32 : goal.returns-in-Ok-eq32
returns-in-Ok-eq32 c s = space_no_symbol c.args.word.now c.in-Ok-eq32.field-0 s c.in-Ok-eq32.ensures.value c.in-Ok-eq32.field-0-test

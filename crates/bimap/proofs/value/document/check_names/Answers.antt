use Rattle.std.proofs.Common.{Err, ap}
use Rattle.bimap.proofs.JsonDocument.{not_empty}
use Rattle.bimap.proofs.value.document.check_names.Goals as goal

pub returns-in-Err-OutOfMemory-clause-fault : goal.returns-in-Err-OutOfMemory-clause-fault
returns-in-Err-OutOfMemory-clause-fault c = not_empty c.args.text.now _ (c.in-Err-OutOfMemory.ensures.memory (ap Err c.in-Err-OutOfMemory.field-0-is))

use Rattle.std.proofs.Common.{rules}
use Rattle.bimap_any.proofs.bijection.Bijection.insert.Goals as goal

pub returns-in-Err-Memory-clause-answer : goal.returns-in-Err-Memory-clause-answer
returns-in-Err-Memory-clause-answer g c = search rules

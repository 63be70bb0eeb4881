use Rattle.std.proofs.Common.{inr, refl, Ok, Err}
use Rattle.bimap_c.proofs.bytes.insert_under.Goals as goal

pub returns-in-Ok-clause-inserted : goal.returns-in-Ok-clause-inserted
returns-in-Ok-clause-inserted g c = inr (record { key = c.in-Some.left; copy = c.in-Some.ensures; result = Ok c.in-Ok.answer; inserted = c.in-Ok.ensures.answer; told = refl; struck = refl; unchanged = tt })

pub returns-in-Err-clause-inserted : goal.returns-in-Err-clause-inserted
returns-in-Err-clause-inserted g c = inr (record { key = c.in-Some.left; copy = c.in-Some.ensures; result = Err c.in-Err.why; inserted = c.in-Err.ensures.answer; told = c.refused.ensures; struck = tt; unchanged = cc c.in-Err.ensures.answer.unchanged })

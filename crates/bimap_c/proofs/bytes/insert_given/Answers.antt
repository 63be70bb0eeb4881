use Rattle.std.proofs.Common.{inr}
use Rattle.bimap_c.proofs.bytes.insert_given.Goals as goal

pub returns-clause-inserted : goal.returns-clause-inserted
returns-clause-inserted g c = inr (c.in-Some.right, c.in-Some.ensures.some, c.insert_under.ensures.inserted)

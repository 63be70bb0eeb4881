use Rattle.std.proofs.Common.{arith}
use Rattle.std.proofs.lemmas.Grind.{common_steps}
use Rattle.bimap_base.proofs.FreeList.{IsSound-empty}
use Rattle.bimap_base.proofs.pairs.Pairs.clear.Goals as goal

pub returns-clause-free : goal.returns-clause-free
returns-clause-free g c = (rw c.clear.ensures.items at (c.push_free.ensures.grown 0 0 (rw c.clear.ensures.items IsSound-empty))).adds.kept

pub returns-clause-count : goal.returns-clause-count
returns-clause-count g c = (rw c.clear.ensures.items at (c.push_free.ensures.grown 0 0 (rw c.clear.ensures.items IsSound-empty))).adds.count

pub returns-clause-places : goal.returns-clause-places
returns-clause-places g c = grind (arith, common_steps)

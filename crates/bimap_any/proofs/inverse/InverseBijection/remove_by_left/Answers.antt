use Rattle.bimap_any.proofs.Sides.{removal_inverse}
use Rattle.bimap_any.proofs.inverse.InverseBijection.remove_by_left.Goals as goal

pub returns-clause-answer : goal.returns-clause-answer
returns-clause-answer g c = rw c.exchange_pair.ensures (removal_inverse c.remove_by_right.ensures.answer)

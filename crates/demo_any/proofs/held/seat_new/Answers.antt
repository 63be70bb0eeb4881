use Rattle.bimap.proofs.LookUps.{each_stays}
use Rattle.demo_any.proofs.held.seat_new.Goals as goal

pub returns-clause-stay : goal.returns-clause-stay
returns-clause-stay g c = each_stays c.insert_no_overwrite.ensures.answer

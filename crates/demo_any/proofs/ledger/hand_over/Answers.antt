use Rattle.bimap.proofs.LookUps.{other_lefts_stay}
use Rattle.demo_any.proofs.ledger.hand_over.Goals as goal

pub returns-clause-others : goal.returns-clause-others
returns-clause-others g c = other_lefts_stay c.replace_left.ensures.answer

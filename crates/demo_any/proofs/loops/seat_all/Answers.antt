use Rattle.bimap.proofs.LookUps.{each_stays}
use Rattle.demo_any.proofs.loops.seat_all.Goals as goal

pub loop-guest-preserved : goal.loop-guest-preserved
loop-guest-preserved g c p was =
    each_stays c.insert_no_overwrite.ensures.answer p (c.loop-guest.invariant p was)

pub returns-in_err-insert_no_overwrite : goal.returns-in_err-insert_no_overwrite
returns-in_err-insert_no_overwrite g c p was =
    each_stays c.insert_no_overwrite.ensures.answer p (c.loop-guest.invariant p was)

use Rattle.bimap_journal.proofs.Refusing.{no_overwrite, left_held, right_held}
use Rattle.bimap_journal.proofs.journaled.Journaled.insert_no_overwrite.Goals as goal

pub returns-in-Ok-Ok-clause-reply : goal.returns-in-Ok-Ok-clause-reply
returns-in-Ok-Ok-clause-reply g c = no_overwrite g.L.PartialEq.eq g.R.PartialEq.eq _ _ _ _ (rw c.in-Ok-Ok.field-0-is at c.in-Ok-Ok.ensures.reply)

pub returns-in-Ok-Err-LeftHeld-clause-reply : goal.returns-in-Ok-Err-LeftHeld-clause-reply
returns-in-Ok-Err-LeftHeld-clause-reply g c =
    let h = rw c.in-Ok-Err-LeftHeld.field-0-is at c.in-Ok-Err-LeftHeld.ensures.reply in
    rw (c.in-Ok-Err-LeftHeld.left-is, c.in-Ok-Err-LeftHeld.right-is) (left_held g.L.PartialEq.eq g.R.PartialEq.eq _ _ _ _ _ (rw c.in-Ok-Err-LeftHeld.field-0-0-is at h))

pub returns-in-Ok-Err-RightHeld-clause-reply : goal.returns-in-Ok-Err-RightHeld-clause-reply
returns-in-Ok-Err-RightHeld-clause-reply g c =
    let h = rw c.in-Ok-Err-RightHeld.field-0-is at c.in-Ok-Err-RightHeld.ensures.reply in
    rw (c.in-Ok-Err-RightHeld.left-is, c.in-Ok-Err-RightHeld.right-is) (right_held g.L.PartialEq.eq g.R.PartialEq.eq _ _ _ _ _ (rw c.in-Ok-Err-RightHeld.field-0-0-is at h))

pub returns-clause-fault : goal.returns-clause-fault
returns-clause-fault g c =
    let h = rw c.in-Err-Failed.field-0-is at c.in-Err-Failed.ensures.fault in
    (no_overwrite g.L.PartialEq.eq g.R.PartialEq.eq _ _ _ _ h.0, h.1, h.2, h.3)

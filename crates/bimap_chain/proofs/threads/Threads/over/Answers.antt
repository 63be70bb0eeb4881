use Rattle.bimap_chain.proofs.Walk.{arrived, stepped, ended_none, ended_some}
use Rattle.bimap_chain.proofs.threads.Threads.over.Goals as goal

pub next-at-requires-clause-place : goal.next-at-requires-clause-place
next-at-requires-clause-place g c =
    (arrived _ _ _ _ _ c.loop-at.invariant.0.at_last c.loop-at.invariant.0.within c.in-Some.is).1

pub next-at-requires-clause-listed : goal.next-at-requires-clause-listed
next-at-requires-clause-listed g c =
    (arrived _ _ _ _ _ c.loop-at.invariant.0.at_last c.loop-at.invariant.0.within c.in-Some.is).2

pub loop-at-smaller : goal.loop-at-smaller
loop-at-smaller g c = (arrived _ _ _ _ _ c.loop-at.invariant.0.at_last c.loop-at.invariant.0.within c.in-Some.is).0

pub loop-at-preserved : goal.loop-at-preserved
loop-at-preserved g c = (stepped _ _ _ _ _ _ _ _ c.requires.threaded c.loop-at.invariant.0 c.in-Some.is c.next-at.ensures, c.if-next-place.false)

pub returns-then-next-place : goal.returns-then-next-place
returns-then-next-place g c = ended_some _ _ _ _ _ _ _ c.loop-at.invariant.0 c.loop-at.invariant.1 c.in-Some.is c.if-next-place.true

pub returns-in_default : goal.returns-in_default
returns-in_default g c = ended_none _ _ _ _ _ _ c.loop-at.invariant.0 c.loop-at.invariant.1 c.in_default.is

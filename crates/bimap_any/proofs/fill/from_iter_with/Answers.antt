use Rattle.std.proofs.Common.{subst, rules}
use Rattle.bimap_base.specs.Positions.{FollowInOrder}
use Rattle.bimap_any.proofs.fill.from_iter_with.Goals as goal

pub returns-in-Err-clause-stopped : goal.returns-in-Err-clause-stopped
returns-in-Err-clause-stopped g c = (_, c.in-Err.ensures.stopped)

pub returns-in-Ok-clause-extended : goal.returns-in-Ok-clause-extended
returns-in-Ok-clause-extended g c = search rules

pub returns-in-Ok-clause-position : goal.returns-in-Ok-clause-position
returns-in-Ok-clause-position g c appends =
    subst (λ held. FollowInOrder (g.I.IntoIterator.into_iter_gives c.args.items) g.I.IntoIter.Iterator.next_gives held (g.B.Bijection.holding c.extend_with.new.bimap).pairs) c.requires.empty (c.in-Ok.ensures.position appends)

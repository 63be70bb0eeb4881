use Rattle.std.proofs.Common.{subst, sym}
use Rattle.bimap_base.specs.Positions.{ComeInOrder}
use Rattle.bimap_any.proofs.Extending.{stopped_for_memory}
use Rattle.bimap_any.proofs.fill.extend.Goals as goal

pub returns-in-Memory-clause-stopped : goal.returns-in-Memory-clause-stopped
returns-in-Memory-clause-stopped g c =
    (stopped_for_memory g.L.PartialEq.eq g.R.PartialEq.eq (g.I.IntoIterator.into_iter_gives c.args.items) g.I.IntoIter.Iterator.next_gives (g.B.Bijection.holding c.args.bimap.now) _ _ _ _ (g.B.Bijection.holding c.extend_with.new.bimap) c.in-Memory.is c.in-Err.ensures.stopped).0

pub returns-in-Memory-clause-position_stopped : goal.returns-in-Memory-clause-position_stopped
returns-in-Memory-clause-position_stopped g c appends =
    let old = g.B.Bijection.holding c.args.bimap.now in
    let new = g.B.Bijection.holding c.extend_with.new.bimap in
    let position = c.in-Err.ensures.position_stopped appends in
    let stop = stopped_for_memory g.L.PartialEq.eq g.R.PartialEq.eq (g.I.IntoIterator.into_iter_gives c.args.items) g.I.IntoIter.Iterator.next_gives old _ _ _ _ new c.in-Memory.is position.0 in
    (stop.0, subst (λ items. ComeInOrder old.pairs items new.pairs) (sym stop.1) position.1)

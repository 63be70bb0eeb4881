use Rattle.std.proofs.Common.{sym, subst}
use Rattle.std.specs.Prelude.{Contains}
use Rattle.bimap_journal.specs.Changes.{IsAfter}
use Rattle.bimap_journal.proofs.Changed.{after_insert}
use Rattle.bimap_journal.proofs.reading.make.Goals as goal

pub returns-in-Ok : goal.returns-in-Ok
returns-in-Ok g c =
    subst (λ change. IsAfter g.L.PartialEq.eq g.R.PartialEq.eq change (Contains (g.B.Bijection.holding c.args.map.now).pairs) (Contains (g.B.Bijection.holding c.insert.new.self).pairs)) (sym c.in-Insert.is)
    (after_insert g.L.PartialEq.eq g.R.PartialEq.eq _ _ c.in-Insert.left c.in-Insert.right c.in-Ok.ensures.answer.put)

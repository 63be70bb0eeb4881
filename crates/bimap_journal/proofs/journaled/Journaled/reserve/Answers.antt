use Rattle.std.proofs.Common.{◌≡◌, refl, subst, sym}
use Rattle.std.specs.Prelude.{Contains}
use Rattle.bimap_journal.specs.State.{State}
use Rattle.bimap_journal.proofs.Steps.{same_durable}
use Rattle.bimap_journal.proofs.journaled.Journaled.reserve.Goals as goal

pub invariant_of-self : goal.invariant_of-self
invariant_of-self g c = λ running.
    let old : State _ _ = record { held = g.B.Bijection.holding c.self.inside.map; calls = c.self.inside.journal.disk; end = c.self.inside.journal.end; is_stopped = c.self.inside.is_stopped } in
    let new : State _ _ = record { held = g.B.Bijection.holding c.reserve.new.self; calls = c.self.inside.journal.disk; end = c.self.inside.journal.end; is_stopped = c.self.inside.is_stopped } in
    let is = c.reserve.ensures.answer.pairs in
    same_durable g.L.Stored.reads g.R.Stored.reads g.L.PartialEq.eq g.R.PartialEq.eq g.met.L.Eq.laws g.met.R.Eq.laws old new (c.self.invariant running)
    (λ p. (λ there. subst (λ l. Contains l p) is there, λ there. subst (λ l. Contains l p) (sym is) there)) refl refl

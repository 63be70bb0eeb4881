use Rattle.std.proofs.Common.{rules, ◌≡◌, ◌-◌, length, false, true, refl, ap, subst}
use Rattle.bimap.specs.InsertionOrder.{holding}
use Rattle.bimap_journal.specs.State.{State, KeepsOneOf}
use Rattle.bimap_journal.proofs.Listed.{replaced_moment, replaced_durable}
use Rattle.bimap_journal.proofs.Steps.{quiet, acknowledges}
use Rattle.bimap_journal.proofs.journaled.compaction.Journaled+BijectiveMap+L+R+I+J+L+R+S.compact.Goals as goal

pub invariant_of-self : goal.invariant_of-self
invariant_of-self g c = λ running.
    let old : State _ _ = record { held = holding c.self.inside.map; calls = c.self.inside.journal.disk; end = c.self.inside.journal.end; is_stopped = c.self.inside.is_stopped } in
    let new : State _ _ = record { held = holding c.self.inside.map; calls = c.replace.new.self; end = c.len.result - 1; is_stopped = c.self.inside.is_stopped } in
    let long : c.len.result ≡ length c.in-Ok.file.items = search rules in
    replaced_durable g.L.Stored.reads g.R.Stored.reads g.L.PartialEq.eq g.R.PartialEq.eq g.met.L.Eq.laws g.met.R.Eq.laws (holding c.self.inside.map).pairs c.in-Ok.file c.self.inside.map.apart c.in-Ok.ensures old new refl refl true c.in-Ok-replace.ensures refl (ap (λ n. n - 1) long)

pub returns-in-Ok-replace-clause-acknowledged : goal.returns-in-Ok-replace-clause-acknowledged
returns-in-Ok-replace-clause-acknowledged g c =
    let old : State _ _ = record { held = holding c.self.inside.map; calls = c.self.inside.journal.disk; end = c.self.inside.journal.end; is_stopped = c.self.inside.is_stopped } in
    let new : State _ _ = record { held = holding c.self.inside.map; calls = c.replace.new.self; end = c.len.result - 1; is_stopped = c.self.inside.is_stopped } in
    let long : c.len.result ≡ length c.in-Ok.file.items = search rules in
    acknowledges g.L.Stored.reads g.R.Stored.reads g.L.PartialEq.eq g.R.PartialEq.eq g.met.L.Eq.laws g.met.R.Eq.laws new (replaced_durable g.L.Stored.reads g.R.Stored.reads g.L.PartialEq.eq g.R.PartialEq.eq g.met.L.Eq.laws g.met.R.Eq.laws (holding c.self.inside.map).pairs c.in-Ok.file c.self.inside.map.apart c.in-Ok.ensures old new refl refl true c.in-Ok-replace.ensures refl (ap (λ n. n - 1) long))

pub returns-in-Ok-replace-clause-any_moment : goal.returns-in-Ok-replace-clause-any_moment
returns-in-Ok-replace-clause-any_moment g c =
    let old : State _ _ = record { held = holding c.self.inside.map; calls = c.self.inside.journal.disk; end = c.self.inside.journal.end; is_stopped = c.self.inside.is_stopped } in
    let new : State _ _ = record { held = holding c.self.inside.map; calls = c.replace.new.self; end = c.len.result - 1; is_stopped = c.self.inside.is_stopped } in
    subst (λ s. s.is_stopped ≡ false → KeepsOneOf g.L.PartialEq.eq g.R.PartialEq.eq g.L.Stored.reads g.R.Stored.reads s new) c.self.view_is (λ running. replaced_moment g.L.Stored.reads g.R.Stored.reads g.L.PartialEq.eq g.R.PartialEq.eq g.met.L.Eq.laws g.met.R.Eq.laws (holding c.self.inside.map).pairs c.in-Ok.file c.self.inside.map.apart c.in-Ok.ensures old new refl refl true c.in-Ok-replace.ensures (c.self.invariant c.if-self.false))

pub returns-in-Ok-clause-any_moment : goal.returns-in-Ok-clause-any_moment
returns-in-Ok-clause-any_moment g c =
    let old : State _ _ = record { held = holding c.self.inside.map; calls = c.self.inside.journal.disk; end = c.self.inside.journal.end; is_stopped = c.self.inside.is_stopped } in
    let new : State _ _ = record { held = holding c.self.inside.map; calls = c.replace.new.self; end = c.self.inside.journal.end; is_stopped = true } in
    subst (λ s. s.is_stopped ≡ false → KeepsOneOf g.L.PartialEq.eq g.R.PartialEq.eq g.L.Stored.reads g.R.Stored.reads s new) c.self.view_is (λ running. replaced_moment g.L.Stored.reads g.R.Stored.reads g.L.PartialEq.eq g.R.PartialEq.eq g.met.L.Eq.laws g.met.R.Eq.laws (holding c.self.inside.map).pairs c.in-Ok.file c.self.inside.map.apart c.in-Ok.ensures old new refl refl false c.in-Err.ensures (c.self.invariant c.if-self.false))

pub returns-in-Err-Memory-clause-any_moment : goal.returns-in-Err-Memory-clause-any_moment
returns-in-Err-Memory-clause-any_moment g c =
    let old : State _ _ = record { held = holding c.self.inside.map; calls = c.self.inside.journal.disk; end = c.self.inside.journal.end; is_stopped = c.self.inside.is_stopped } in
    subst (λ s. s.is_stopped ≡ false → KeepsOneOf g.L.PartialEq.eq g.R.PartialEq.eq g.L.Stored.reads g.R.Stored.reads s s) c.self.view_is (λ running. quiet g.L.Stored.reads g.R.Stored.reads g.L.PartialEq.eq g.R.PartialEq.eq g.met.L.Eq.laws g.met.R.Eq.laws old old (c.self.invariant c.if-self.false) refl)

pub returns-clause-any_moment : goal.returns-clause-any_moment
returns-clause-any_moment g c =
    let old : State _ _ = record { held = holding c.self.inside.map; calls = c.self.inside.journal.disk; end = c.self.inside.journal.end; is_stopped = c.self.inside.is_stopped } in
    subst (λ s. s.is_stopped ≡ false → KeepsOneOf g.L.PartialEq.eq g.R.PartialEq.eq g.L.Stored.reads g.R.Stored.reads s s) c.self.view_is (λ running. quiet g.L.Stored.reads g.R.Stored.reads g.L.PartialEq.eq g.R.PartialEq.eq g.met.L.Eq.laws g.met.R.Eq.laws old old (c.self.invariant c.if-self.false) refl)

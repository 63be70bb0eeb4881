use Rattle.std.proofs.Common.{◌≡◌, ◌∷◌, [], false, true, refl, subst}
use Rattle.std.specs.Prelude.{Ok}
use Rattle.bimap.specs.Holding.{IsInsertionUnder}
use Rattle.bimap_journal.specs.declared.change.Change.TheVariants.{Insert}
use Rattle.bimap_journal.specs.State.{State, KeepsOneOf}
use Rattle.bimap_journal.proofs.Changed.{after_insert}
use Rattle.bimap_journal.proofs.Steps.{quiet, stored_moment, stored_durable, acknowledges}
use Rattle.bimap_journal.proofs.journaled.Journaled.insert_with.Goals as goal

pub invariant_of-self : goal.invariant_of-self
invariant_of-self g c = λ running.
    let old : State _ _ = record { held = g.B.Bijection.holding c.self.inside.map; calls = c.self.inside.journal.disk; end = c.self.inside.journal.end; is_stopped = c.self.inside.is_stopped } in
    let new : State _ _ = record { held = g.B.Bijection.holding c.insert_with.new.self; calls = c.commit.new.self.disk; end = c.commit.new.self.end; is_stopped = c.self.inside.is_stopped } in
    let d = c.self.invariant c.if-self.false in
    let line = c.in-Ok.ensures in
    let after = after_insert g.L.PartialEq.eq g.R.PartialEq.eq _ _ c.args.left c.args.right c.in-Ok-insert_with.ensures.answer.put in
    stored_durable g.L.Stored.reads g.R.Stored.reads g.L.PartialEq.eq g.R.PartialEq.eq g.met.L.Eq.laws g.met.R.Eq.laws old new d (Insert c.args.left c.args.right) line.0 line.1 after (c.in-Ok-commit.ensures.acknowledged d.texts (line.0 ∷ []) d.rests line.2)

pub returns-in-Ok-commit-clause-acknowledged : goal.returns-in-Ok-commit-clause-acknowledged
returns-in-Ok-commit-clause-acknowledged g c =
    let old : State _ _ = record { held = g.B.Bijection.holding c.self.inside.map; calls = c.self.inside.journal.disk; end = c.self.inside.journal.end; is_stopped = c.self.inside.is_stopped } in
    let new : State _ _ = record { held = g.B.Bijection.holding c.insert_with.new.self; calls = c.commit.new.self.disk; end = c.commit.new.self.end; is_stopped = c.self.inside.is_stopped } in
    let d = c.self.invariant c.if-self.false in
    let line = c.in-Ok.ensures in
    let after = after_insert g.L.PartialEq.eq g.R.PartialEq.eq _ _ c.args.left c.args.right c.in-Ok-insert_with.ensures.answer.put in
    acknowledges g.L.Stored.reads g.R.Stored.reads g.L.PartialEq.eq g.R.PartialEq.eq g.met.L.Eq.laws g.met.R.Eq.laws new (stored_durable g.L.Stored.reads g.R.Stored.reads g.L.PartialEq.eq g.R.PartialEq.eq g.met.L.Eq.laws g.met.R.Eq.laws old new d (Insert c.args.left c.args.right) line.0 line.1 after (c.in-Ok-commit.ensures.acknowledged d.texts (line.0 ∷ []) d.rests line.2))

pub returns-in-Ok-commit-clause-any_moment : goal.returns-in-Ok-commit-clause-any_moment
returns-in-Ok-commit-clause-any_moment g c =
    let old : State _ _ = record { held = g.B.Bijection.holding c.self.inside.map; calls = c.self.inside.journal.disk; end = c.self.inside.journal.end; is_stopped = c.self.inside.is_stopped } in
    let new : State _ _ = record { held = g.B.Bijection.holding c.insert_with.new.self; calls = c.commit.new.self.disk; end = c.commit.new.self.end; is_stopped = c.self.inside.is_stopped } in
    let d = c.self.invariant c.if-self.false in
    let line = c.in-Ok.ensures in
    let after = after_insert g.L.PartialEq.eq g.R.PartialEq.eq _ _ c.args.left c.args.right c.in-Ok-insert_with.ensures.answer.put in
    subst (λ s. s.is_stopped ≡ false → KeepsOneOf g.L.PartialEq.eq g.R.PartialEq.eq g.L.Stored.reads g.R.Stored.reads s new) c.self.view_is (λ running.
    stored_moment g.L.Stored.reads g.R.Stored.reads g.L.PartialEq.eq g.R.PartialEq.eq g.met.L.Eq.laws g.met.R.Eq.laws old new d (Insert c.args.left c.args.right) line.0 line.1 after (c.in-Ok-commit.ensures.any_moment d.texts (line.0 ∷ []) d.rests line.2))

pub returns-in-Ok-insert_with-clause-any_moment : goal.returns-in-Ok-insert_with-clause-any_moment
returns-in-Ok-insert_with-clause-any_moment g c =
    let old : State _ _ = record { held = g.B.Bijection.holding c.self.inside.map; calls = c.self.inside.journal.disk; end = c.self.inside.journal.end; is_stopped = c.self.inside.is_stopped } in
    let new : State _ _ = record { held = g.B.Bijection.holding c.insert_with.new.self; calls = c.commit.new.self.disk; end = c.commit.new.self.end; is_stopped = true } in
    let d = c.self.invariant c.if-self.false in
    let line = c.in-Ok.ensures in
    let after = after_insert g.L.PartialEq.eq g.R.PartialEq.eq _ _ c.args.left c.args.right c.in-Ok-insert_with.ensures.answer.put in
    subst (λ s. s.is_stopped ≡ false → KeepsOneOf g.L.PartialEq.eq g.R.PartialEq.eq g.L.Stored.reads g.R.Stored.reads s new) c.self.view_is (λ running.
    stored_moment g.L.Stored.reads g.R.Stored.reads g.L.PartialEq.eq g.R.PartialEq.eq g.met.L.Eq.laws g.met.R.Eq.laws old new d (Insert c.args.left c.args.right) line.0 line.1 after (c.in-Err-commit.ensures.any_moment d.texts (line.0 ∷ []) d.rests line.2))

pub returns-in-Ok-insert_with-clause-fault : goal.returns-in-Ok-insert_with-clause-fault
returns-in-Ok-insert_with-clause-fault g c = (
  subst (λ s. IsInsertionUnder g.L.PartialEq.eq g.R.PartialEq.eq s.held (c.args.left, c.args.right) c.args.policy (Ok c.in-Ok-insert_with.answer) (g.B.Bijection.holding c.insert_with.new.self)) c.self.view_is c.in-Ok-insert_with.ensures.answer,
  subst (λ s. s.is_stopped ≡ false) c.self.view_is c.if-self.false,
  refl,
  c.in-Err-commit.ensures.cause,
)

pub returns-in-Ok-clause-any_moment : goal.returns-in-Ok-clause-any_moment
returns-in-Ok-clause-any_moment g c =
    let old : State _ _ = record { held = g.B.Bijection.holding c.self.inside.map; calls = c.self.inside.journal.disk; end = c.self.inside.journal.end; is_stopped = c.self.inside.is_stopped } in
    let new : State _ _ = record { held = g.B.Bijection.holding c.insert_with.new.self; calls = c.self.inside.journal.disk; end = c.self.inside.journal.end; is_stopped = c.self.inside.is_stopped } in
    subst (λ s. s.is_stopped ≡ false → KeepsOneOf g.L.PartialEq.eq g.R.PartialEq.eq g.L.Stored.reads g.R.Stored.reads s new) c.self.view_is (λ running. quiet g.L.Stored.reads g.R.Stored.reads g.L.PartialEq.eq g.R.PartialEq.eq g.met.L.Eq.laws g.met.R.Eq.laws old new (c.self.invariant c.if-self.false) refl)

pub returns-in-Err-Memory-clause-any_moment : goal.returns-in-Err-Memory-clause-any_moment
returns-in-Err-Memory-clause-any_moment g c =
    let old : State _ _ = record { held = g.B.Bijection.holding c.self.inside.map; calls = c.self.inside.journal.disk; end = c.self.inside.journal.end; is_stopped = c.self.inside.is_stopped } in
    subst (λ s. s.is_stopped ≡ false → KeepsOneOf g.L.PartialEq.eq g.R.PartialEq.eq g.L.Stored.reads g.R.Stored.reads s s) c.self.view_is (λ running. quiet g.L.Stored.reads g.R.Stored.reads g.L.PartialEq.eq g.R.PartialEq.eq g.met.L.Eq.laws g.met.R.Eq.laws old old (c.self.invariant c.if-self.false) refl)

pub returns-clause-any_moment : goal.returns-clause-any_moment
returns-clause-any_moment g c =
    let old : State _ _ = record { held = g.B.Bijection.holding c.self.inside.map; calls = c.self.inside.journal.disk; end = c.self.inside.journal.end; is_stopped = c.self.inside.is_stopped } in
    subst (λ s. s.is_stopped ≡ false → KeepsOneOf g.L.PartialEq.eq g.R.PartialEq.eq g.L.Stored.reads g.R.Stored.reads s s) c.self.view_is (λ running. quiet g.L.Stored.reads g.R.Stored.reads g.L.PartialEq.eq g.R.PartialEq.eq g.met.L.Eq.laws g.met.R.Eq.laws old old (c.self.invariant c.if-self.false) refl)

use Rattle.std.proofs.Common.{◌≡◌, ◌≢◌, ◌∙◌, [], false, true, refl, sym, subst, arith}
use Rattle.std.specs.Prelude.{Contains}
use Rattle.std.proofs.lemmas.Grind.{common_steps}
use Rattle.bimap_journal.specs.Batches.{IsRun}
use Rattle.bimap_journal.specs.State.{State, KeepsOneOf, IsDurable}
use Rattle.bimap_journal.proofs.Batches.{zipped_long, empty_items, is_group, kept_alone}
use Rattle.bimap_journal.proofs.Steps.{quiet, group_moment, group_durable, acknowledges}
use Rattle.bimap_journal.proofs.journaled.Journaled.apply.Goals as goal

pub fill-group-requires-clause-one_each : goal.fill-group-requires-clause-one_each
fill-group-requires-clause-one_each g c =
    let one_each = zipped_long _ _ _ c.in-Ok.ensures.lines in
    let ran = c.in-Ok-perform_all.ensures.ran.0 in
    omega (arith, one_each, ran)

pub invariant_of-self : goal.invariant_of-self
invariant_of-self g c =
    let none : c.fill-group.result.items ≡ [] = empty_items c.fill-group.result (sym c.is_empty.ensures ∙ c.if-is_empty.true) in
    λ running.
    let old : State _ _ = record { held = g.B.Bijection.holding c.self.inside.map; calls = c.self.inside.journal.disk; end = c.self.inside.journal.end; is_stopped = c.self.inside.is_stopped } in
    let new : State _ _ = record { held = g.B.Bijection.holding c.perform_all.new.map; calls = c.self.inside.journal.disk; end = c.self.inside.journal.end; is_stopped = c.self.inside.is_stopped } in
    let d = c.self.invariant c.if-self.false in
    let made = c.fill-group.ensures old.held new.held c.args.calls.items d.texts c.in-Ok.ensures.lines c.in-Ok-perform_all.ensures.ran d.kept in
    record { texts = d.texts; rests = d.rests; kept = kept_alone g.L.Stored.reads g.R.Stored.reads g.L.PartialEq.eq g.R.PartialEq.eq d.texts (Contains new.held.pairs) c.fill-group.result.items made none }

pub returns-then-is_empty-clause-acknowledged : goal.returns-then-is_empty-clause-acknowledged
returns-then-is_empty-clause-acknowledged g c =
    let none : c.fill-group.result.items ≡ [] = empty_items c.fill-group.result (sym c.is_empty.ensures ∙ c.if-is_empty.true) in
    let old : State _ _ = record { held = g.B.Bijection.holding c.self.inside.map; calls = c.self.inside.journal.disk; end = c.self.inside.journal.end; is_stopped = c.self.inside.is_stopped } in
    let new : State _ _ = record { held = g.B.Bijection.holding c.perform_all.new.map; calls = c.self.inside.journal.disk; end = c.self.inside.journal.end; is_stopped = c.self.inside.is_stopped } in
    let d = c.self.invariant c.if-self.false in
    let made = c.fill-group.ensures old.held new.held c.args.calls.items d.texts c.in-Ok.ensures.lines c.in-Ok-perform_all.ensures.ran d.kept in
    let durable : IsDurable g.L.PartialEq.eq g.R.PartialEq.eq g.L.Stored.reads g.R.Stored.reads new = record { texts = d.texts; rests = d.rests; kept = kept_alone g.L.Stored.reads g.R.Stored.reads g.L.PartialEq.eq g.R.PartialEq.eq d.texts (Contains new.held.pairs) c.fill-group.result.items made none } in
    acknowledges g.L.Stored.reads g.R.Stored.reads g.L.PartialEq.eq g.R.PartialEq.eq g.met.L.Eq.laws g.met.R.Eq.laws new durable

pub returns-then-is_empty-clause-any_moment : goal.returns-then-is_empty-clause-any_moment
returns-then-is_empty-clause-any_moment g c =
    let old : State _ _ = record { held = g.B.Bijection.holding c.self.inside.map; calls = c.self.inside.journal.disk; end = c.self.inside.journal.end; is_stopped = c.self.inside.is_stopped } in
    let new : State _ _ = record { held = g.B.Bijection.holding c.perform_all.new.map; calls = c.self.inside.journal.disk; end = c.self.inside.journal.end; is_stopped = c.self.inside.is_stopped } in
    let d = c.self.invariant c.if-self.false in
    subst (λ s. s.is_stopped ≡ false → KeepsOneOf g.L.PartialEq.eq g.R.PartialEq.eq g.L.Stored.reads g.R.Stored.reads s new) c.self.view_is (λ running. quiet g.L.Stored.reads g.R.Stored.reads g.L.PartialEq.eq g.R.PartialEq.eq g.met.L.Eq.laws g.met.R.Eq.laws old new d refl)

pub invariant_of-self-in-Ok-commit : goal.invariant_of-self-in-Ok-commit
invariant_of-self-in-Ok-commit g c =
    λ running.
    let old : State _ _ = record { held = g.B.Bijection.holding c.self.inside.map; calls = c.self.inside.journal.disk; end = c.self.inside.journal.end; is_stopped = c.self.inside.is_stopped } in
    let new : State _ _ = record { held = g.B.Bijection.holding c.perform_all.new.map; calls = c.commit.new.self.disk; end = c.commit.new.self.end; is_stopped = c.self.inside.is_stopped } in
    let d = c.self.invariant c.if-self.false in
    let made = c.fill-group.ensures old.held new.held c.args.calls.items d.texts c.in-Ok.ensures.lines c.in-Ok-perform_all.ensures.ran d.kept in
    let some : c.fill-group.result.items ≢ [] = grind (arith, common_steps) in
    group_durable g.L.Stored.reads g.R.Stored.reads g.L.PartialEq.eq g.R.PartialEq.eq g.met.L.Eq.laws g.met.R.Eq.laws old new d made.more made.kept (c.in-Ok-commit.ensures.acknowledged d.texts made.more d.rests (is_group g.L.Stored.reads g.R.Stored.reads g.L.PartialEq.eq g.R.PartialEq.eq d.texts (Contains new.held.pairs) c.fill-group.result.items made some))

pub returns-in-Ok-commit-clause-acknowledged : goal.returns-in-Ok-commit-clause-acknowledged
returns-in-Ok-commit-clause-acknowledged g c =
    let old : State _ _ = record { held = g.B.Bijection.holding c.self.inside.map; calls = c.self.inside.journal.disk; end = c.self.inside.journal.end; is_stopped = c.self.inside.is_stopped } in
    let new : State _ _ = record { held = g.B.Bijection.holding c.perform_all.new.map; calls = c.commit.new.self.disk; end = c.commit.new.self.end; is_stopped = c.self.inside.is_stopped } in
    let d = c.self.invariant c.if-self.false in
    let made = c.fill-group.ensures old.held new.held c.args.calls.items d.texts c.in-Ok.ensures.lines c.in-Ok-perform_all.ensures.ran d.kept in
    let some : c.fill-group.result.items ≢ [] = grind (arith, common_steps) in
    acknowledges g.L.Stored.reads g.R.Stored.reads g.L.PartialEq.eq g.R.PartialEq.eq g.met.L.Eq.laws g.met.R.Eq.laws new (group_durable g.L.Stored.reads g.R.Stored.reads g.L.PartialEq.eq g.R.PartialEq.eq g.met.L.Eq.laws g.met.R.Eq.laws old new d made.more made.kept (c.in-Ok-commit.ensures.acknowledged d.texts made.more d.rests (is_group g.L.Stored.reads g.R.Stored.reads g.L.PartialEq.eq g.R.PartialEq.eq d.texts (Contains new.held.pairs) c.fill-group.result.items made some)))

pub returns-in-Ok-commit-clause-any_moment : goal.returns-in-Ok-commit-clause-any_moment
returns-in-Ok-commit-clause-any_moment g c =
    let old : State _ _ = record { held = g.B.Bijection.holding c.self.inside.map; calls = c.self.inside.journal.disk; end = c.self.inside.journal.end; is_stopped = c.self.inside.is_stopped } in
    let new : State _ _ = record { held = g.B.Bijection.holding c.perform_all.new.map; calls = c.commit.new.self.disk; end = c.commit.new.self.end; is_stopped = c.self.inside.is_stopped } in
    let d = c.self.invariant c.if-self.false in
    let made = c.fill-group.ensures old.held new.held c.args.calls.items d.texts c.in-Ok.ensures.lines c.in-Ok-perform_all.ensures.ran d.kept in
    let some : c.fill-group.result.items ≢ [] = grind (arith, common_steps) in
    subst (λ s. s.is_stopped ≡ false → KeepsOneOf g.L.PartialEq.eq g.R.PartialEq.eq g.L.Stored.reads g.R.Stored.reads s new) c.self.view_is (λ running. group_moment g.L.Stored.reads g.R.Stored.reads g.L.PartialEq.eq g.R.PartialEq.eq g.met.L.Eq.laws g.met.R.Eq.laws old new d made.more made.kept (c.in-Ok-commit.ensures.any_moment d.texts made.more d.rests (is_group g.L.Stored.reads g.R.Stored.reads g.L.PartialEq.eq g.R.PartialEq.eq d.texts (Contains new.held.pairs) c.fill-group.result.items made some)))

pub returns-in-Ok-perform_all-clause-any_moment : goal.returns-in-Ok-perform_all-clause-any_moment
returns-in-Ok-perform_all-clause-any_moment g c =
    let old : State _ _ = record { held = g.B.Bijection.holding c.self.inside.map; calls = c.self.inside.journal.disk; end = c.self.inside.journal.end; is_stopped = c.self.inside.is_stopped } in
    let new : State _ _ = record { held = g.B.Bijection.holding c.perform_all.new.map; calls = c.commit.new.self.disk; end = c.commit.new.self.end; is_stopped = true } in
    let d = c.self.invariant c.if-self.false in
    let made = c.fill-group.ensures old.held new.held c.args.calls.items d.texts c.in-Ok.ensures.lines c.in-Ok-perform_all.ensures.ran d.kept in
    let some : c.fill-group.result.items ≢ [] = grind (arith, common_steps) in
    subst (λ s. s.is_stopped ≡ false → KeepsOneOf g.L.PartialEq.eq g.R.PartialEq.eq g.L.Stored.reads g.R.Stored.reads s new) c.self.view_is (λ running. group_moment g.L.Stored.reads g.R.Stored.reads g.L.PartialEq.eq g.R.PartialEq.eq g.met.L.Eq.laws g.met.R.Eq.laws old new d made.more made.kept (c.in-Err-commit.ensures.any_moment d.texts made.more d.rests (is_group g.L.Stored.reads g.R.Stored.reads g.L.PartialEq.eq g.R.PartialEq.eq d.texts (Contains new.held.pairs) c.fill-group.result.items made some)))

pub returns-in-Ok-perform_all-clause-fault : goal.returns-in-Ok-perform_all-clause-fault
returns-in-Ok-perform_all-clause-fault g c = (
  subst (λ s. IsRun g.L.PartialEq.eq g.R.PartialEq.eq s.held c.args.calls.items c.in-Ok-perform_all.replies.items (g.B.Bijection.holding c.perform_all.new.map)) c.self.view_is c.in-Ok-perform_all.ensures.ran,
  subst (λ s. s.is_stopped ≡ false) c.self.view_is c.if-self.false,
  refl,
  c.in-Err-commit.ensures.cause,
)

pub returns-in-Ok-clause-any_moment : goal.returns-in-Ok-clause-any_moment
returns-in-Ok-clause-any_moment g c =
    let old : State _ _ = record { held = g.B.Bijection.holding c.self.inside.map; calls = c.self.inside.journal.disk; end = c.self.inside.journal.end; is_stopped = c.self.inside.is_stopped } in
    let new : State _ _ = record { held = g.B.Bijection.holding c.perform_all.new.map; calls = c.self.inside.journal.disk; end = c.self.inside.journal.end; is_stopped = c.self.inside.is_stopped } in
    let d = c.self.invariant c.if-self.false in
    subst (λ s. s.is_stopped ≡ false → KeepsOneOf g.L.PartialEq.eq g.R.PartialEq.eq g.L.Stored.reads g.R.Stored.reads s new) c.self.view_is (λ running. quiet g.L.Stored.reads g.R.Stored.reads g.L.PartialEq.eq g.R.PartialEq.eq g.met.L.Eq.laws g.met.R.Eq.laws old new d refl)

pub returns-in-Err-Memory-clause-any_moment : goal.returns-in-Err-Memory-clause-any_moment
returns-in-Err-Memory-clause-any_moment g c =
    let old : State _ _ = record { held = g.B.Bijection.holding c.self.inside.map; calls = c.self.inside.journal.disk; end = c.self.inside.journal.end; is_stopped = c.self.inside.is_stopped } in
    subst (λ s. s.is_stopped ≡ false → KeepsOneOf g.L.PartialEq.eq g.R.PartialEq.eq g.L.Stored.reads g.R.Stored.reads s s) c.self.view_is (λ running. quiet g.L.Stored.reads g.R.Stored.reads g.L.PartialEq.eq g.R.PartialEq.eq g.met.L.Eq.laws g.met.R.Eq.laws old old (c.self.invariant c.if-self.false) refl)

pub returns-clause-any_moment : goal.returns-clause-any_moment
returns-clause-any_moment g c =
    let old : State _ _ = record { held = g.B.Bijection.holding c.self.inside.map; calls = c.self.inside.journal.disk; end = c.self.inside.journal.end; is_stopped = c.self.inside.is_stopped } in
    subst (λ s. s.is_stopped ≡ false → KeepsOneOf g.L.PartialEq.eq g.R.PartialEq.eq g.L.Stored.reads g.R.Stored.reads s s) c.self.view_is (λ running. quiet g.L.Stored.reads g.R.Stored.reads g.L.PartialEq.eq g.R.PartialEq.eq g.met.L.Eq.laws g.met.R.Eq.laws old old (c.self.invariant c.if-self.false) refl)

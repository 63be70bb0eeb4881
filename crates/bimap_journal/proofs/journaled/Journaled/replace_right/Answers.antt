use Rattle.std.proofs.Common.{◌≡◌, ◌∷◌, [], false, true, refl, subst}
use Rattle.std.specs.Prelude.{Contains, Err}
use Rattle.bimap.specs.Exchange.{IsReplacementOfRight}
use Rattle.bimap_journal.specs.State.{State, KeepsOneOf}
use Rattle.bimap_journal.proofs.Replacing.{after_right_replaced, right_kept}
use Rattle.bimap_journal.proofs.Steps.{quiet, group_moment, group_durable, acknowledges}
use Rattle.bimap_journal.proofs.journaled.Journaled.replace_right.Goals as goal

pub returns-in-None-clause-any_moment : goal.returns-in-None-clause-any_moment
returns-in-None-clause-any_moment g c =
    let old : State _ _ = record { held = g.B.Bijection.holding c.self.inside.map; calls = c.self.inside.journal.disk; end = c.self.inside.journal.end; is_stopped = c.self.inside.is_stopped } in
    subst (λ s. s.is_stopped ≡ false → KeepsOneOf g.L.PartialEq.eq g.R.PartialEq.eq g.L.Stored.reads g.R.Stored.reads s s) c.self.view_is (λ running. quiet g.L.Stored.reads g.R.Stored.reads g.L.PartialEq.eq g.R.PartialEq.eq g.met.L.Eq.laws g.met.R.Eq.laws old old (c.self.invariant c.if-self.false) refl)

pub invariant_of-self : goal.invariant_of-self
invariant_of-self g c =
    λ running.
    let old : State _ _ = record { held = g.B.Bijection.holding c.self.inside.map; calls = c.self.inside.journal.disk; end = c.self.inside.journal.end; is_stopped = c.self.inside.is_stopped } in
    let new : State _ _ = record { held = g.B.Bijection.holding c.replace_right.new.bimap; calls = c.commit.new.self.disk; end = c.commit.new.self.end; is_stopped = c.self.inside.is_stopped } in
    let d = c.self.invariant c.if-self.false in
    let line = c.in-Ok.ensures in
    let found = c.in-Some.ensures.found in
    let after = after_right_replaced g.L.PartialEq.eq g.R.PartialEq.eq g.met.L.Eq.laws g.met.R.Eq.laws old.held.pairs new.held.pairs (g.met.B.Bijection.apart c.self.inside.map) (g.met.B.Bijection.apart c.replace_right.new.bimap) c.args.from.now c.args.to c.in-Ok-replace_right.taken found.0 c.in-Some.left.now c.in-Ok-replace_right.ensures.answer.replaced found.1 found.2 in
    let kept = right_kept g.L.Stored.reads g.R.Stored.reads g.L.PartialEq.eq g.R.PartialEq.eq g.met.L.Eq.laws g.met.R.Eq.laws d.texts line.0 line.1 (Contains old.held.pairs) (Contains new.held.pairs) d.kept c.args.from.now c.args.to c.in-Some.left.now line.2 line.3 after in
    group_durable g.L.Stored.reads g.R.Stored.reads g.L.PartialEq.eq g.R.PartialEq.eq g.met.L.Eq.laws g.met.R.Eq.laws old new d (line.0 ∷ line.1 ∷ []) kept (c.in-Ok-commit.ensures.acknowledged d.texts (line.0 ∷ line.1 ∷ []) d.rests line.4)

pub returns-in-Ok-commit-clause-acknowledged : goal.returns-in-Ok-commit-clause-acknowledged
returns-in-Ok-commit-clause-acknowledged g c =
    let old : State _ _ = record { held = g.B.Bijection.holding c.self.inside.map; calls = c.self.inside.journal.disk; end = c.self.inside.journal.end; is_stopped = c.self.inside.is_stopped } in
    let new : State _ _ = record { held = g.B.Bijection.holding c.replace_right.new.bimap; calls = c.commit.new.self.disk; end = c.commit.new.self.end; is_stopped = c.self.inside.is_stopped } in
    let d = c.self.invariant c.if-self.false in
    let line = c.in-Ok.ensures in
    let found = c.in-Some.ensures.found in
    let after = after_right_replaced g.L.PartialEq.eq g.R.PartialEq.eq g.met.L.Eq.laws g.met.R.Eq.laws old.held.pairs new.held.pairs (g.met.B.Bijection.apart c.self.inside.map) (g.met.B.Bijection.apart c.replace_right.new.bimap) c.args.from.now c.args.to c.in-Ok-replace_right.taken found.0 c.in-Some.left.now c.in-Ok-replace_right.ensures.answer.replaced found.1 found.2 in
    let kept = right_kept g.L.Stored.reads g.R.Stored.reads g.L.PartialEq.eq g.R.PartialEq.eq g.met.L.Eq.laws g.met.R.Eq.laws d.texts line.0 line.1 (Contains old.held.pairs) (Contains new.held.pairs) d.kept c.args.from.now c.args.to c.in-Some.left.now line.2 line.3 after in
    acknowledges g.L.Stored.reads g.R.Stored.reads g.L.PartialEq.eq g.R.PartialEq.eq g.met.L.Eq.laws g.met.R.Eq.laws new (group_durable g.L.Stored.reads g.R.Stored.reads g.L.PartialEq.eq g.R.PartialEq.eq g.met.L.Eq.laws g.met.R.Eq.laws old new d (line.0 ∷ line.1 ∷ []) kept (c.in-Ok-commit.ensures.acknowledged d.texts (line.0 ∷ line.1 ∷ []) d.rests line.4))

pub returns-in-Ok-commit-clause-any_moment : goal.returns-in-Ok-commit-clause-any_moment
returns-in-Ok-commit-clause-any_moment g c =
    let old : State _ _ = record { held = g.B.Bijection.holding c.self.inside.map; calls = c.self.inside.journal.disk; end = c.self.inside.journal.end; is_stopped = c.self.inside.is_stopped } in
    let new : State _ _ = record { held = g.B.Bijection.holding c.replace_right.new.bimap; calls = c.commit.new.self.disk; end = c.commit.new.self.end; is_stopped = c.self.inside.is_stopped } in
    let d = c.self.invariant c.if-self.false in
    let line = c.in-Ok.ensures in
    let found = c.in-Some.ensures.found in
    let after = after_right_replaced g.L.PartialEq.eq g.R.PartialEq.eq g.met.L.Eq.laws g.met.R.Eq.laws old.held.pairs new.held.pairs (g.met.B.Bijection.apart c.self.inside.map) (g.met.B.Bijection.apart c.replace_right.new.bimap) c.args.from.now c.args.to c.in-Ok-replace_right.taken found.0 c.in-Some.left.now c.in-Ok-replace_right.ensures.answer.replaced found.1 found.2 in
    let kept = right_kept g.L.Stored.reads g.R.Stored.reads g.L.PartialEq.eq g.R.PartialEq.eq g.met.L.Eq.laws g.met.R.Eq.laws d.texts line.0 line.1 (Contains old.held.pairs) (Contains new.held.pairs) d.kept c.args.from.now c.args.to c.in-Some.left.now line.2 line.3 after in
    subst (λ s. s.is_stopped ≡ false → KeepsOneOf g.L.PartialEq.eq g.R.PartialEq.eq g.L.Stored.reads g.R.Stored.reads s new) c.self.view_is (λ running. group_moment g.L.Stored.reads g.R.Stored.reads g.L.PartialEq.eq g.R.PartialEq.eq g.met.L.Eq.laws g.met.R.Eq.laws old new d (line.0 ∷ line.1 ∷ []) kept (c.in-Ok-commit.ensures.any_moment d.texts (line.0 ∷ line.1 ∷ []) d.rests line.4))

pub returns-in-Ok-replace_right-clause-any_moment : goal.returns-in-Ok-replace_right-clause-any_moment
returns-in-Ok-replace_right-clause-any_moment g c =
    let old : State _ _ = record { held = g.B.Bijection.holding c.self.inside.map; calls = c.self.inside.journal.disk; end = c.self.inside.journal.end; is_stopped = c.self.inside.is_stopped } in
    let new : State _ _ = record { held = g.B.Bijection.holding c.replace_right.new.bimap; calls = c.commit.new.self.disk; end = c.commit.new.self.end; is_stopped = true } in
    let d = c.self.invariant c.if-self.false in
    let line = c.in-Ok.ensures in
    let found = c.in-Some.ensures.found in
    let after = after_right_replaced g.L.PartialEq.eq g.R.PartialEq.eq g.met.L.Eq.laws g.met.R.Eq.laws old.held.pairs new.held.pairs (g.met.B.Bijection.apart c.self.inside.map) (g.met.B.Bijection.apart c.replace_right.new.bimap) c.args.from.now c.args.to c.in-Ok-replace_right.taken found.0 c.in-Some.left.now c.in-Ok-replace_right.ensures.answer.replaced found.1 found.2 in
    let kept = right_kept g.L.Stored.reads g.R.Stored.reads g.L.PartialEq.eq g.R.PartialEq.eq g.met.L.Eq.laws g.met.R.Eq.laws d.texts line.0 line.1 (Contains old.held.pairs) (Contains new.held.pairs) d.kept c.args.from.now c.args.to c.in-Some.left.now line.2 line.3 after in
    subst (λ s. s.is_stopped ≡ false → KeepsOneOf g.L.PartialEq.eq g.R.PartialEq.eq g.L.Stored.reads g.R.Stored.reads s new) c.self.view_is (λ running. group_moment g.L.Stored.reads g.R.Stored.reads g.L.PartialEq.eq g.R.PartialEq.eq g.met.L.Eq.laws g.met.R.Eq.laws old new d (line.0 ∷ line.1 ∷ []) kept (c.in-Err-commit.ensures.any_moment d.texts (line.0 ∷ line.1 ∷ []) d.rests line.4))

pub returns-in-Ok-clause-reply : goal.returns-in-Ok-clause-reply
returns-in-Ok-clause-reply g c =
    subst (λ s. IsReplacementOfRight g.R.PartialEq.eq s.held c.args.from.now c.args.to (Err c.in-Err.refusal) (g.B.Bijection.holding c.replace_right.new.bimap)) c.self.view_is c.in-Err.ensures.answer

pub returns-in-Ok-clause-any_moment : goal.returns-in-Ok-clause-any_moment
returns-in-Ok-clause-any_moment g c =
    let old : State _ _ = record { held = g.B.Bijection.holding c.self.inside.map; calls = c.self.inside.journal.disk; end = c.self.inside.journal.end; is_stopped = c.self.inside.is_stopped } in
    let new : State _ _ = record { held = g.B.Bijection.holding c.replace_right.new.bimap; calls = c.self.inside.journal.disk; end = c.self.inside.journal.end; is_stopped = c.self.inside.is_stopped } in
    let d = c.self.invariant c.if-self.false in
    subst (λ s. s.is_stopped ≡ false → KeepsOneOf g.L.PartialEq.eq g.R.PartialEq.eq g.L.Stored.reads g.R.Stored.reads s new) c.self.view_is (λ running. quiet g.L.Stored.reads g.R.Stored.reads g.L.PartialEq.eq g.R.PartialEq.eq g.met.L.Eq.laws g.met.R.Eq.laws old new d refl)

pub returns-in-Err-Memory-clause-any_moment : goal.returns-in-Err-Memory-clause-any_moment
returns-in-Err-Memory-clause-any_moment g c =
    let old : State _ _ = record { held = g.B.Bijection.holding c.self.inside.map; calls = c.self.inside.journal.disk; end = c.self.inside.journal.end; is_stopped = c.self.inside.is_stopped } in
    subst (λ s. s.is_stopped ≡ false → KeepsOneOf g.L.PartialEq.eq g.R.PartialEq.eq g.L.Stored.reads g.R.Stored.reads s s) c.self.view_is (λ running. quiet g.L.Stored.reads g.R.Stored.reads g.L.PartialEq.eq g.R.PartialEq.eq g.met.L.Eq.laws g.met.R.Eq.laws old old (c.self.invariant c.if-self.false) refl)

pub returns-clause-any_moment : goal.returns-clause-any_moment
returns-clause-any_moment g c =
    let old : State _ _ = record { held = g.B.Bijection.holding c.self.inside.map; calls = c.self.inside.journal.disk; end = c.self.inside.journal.end; is_stopped = c.self.inside.is_stopped } in
    subst (λ s. s.is_stopped ≡ false → KeepsOneOf g.L.PartialEq.eq g.R.PartialEq.eq g.L.Stored.reads g.R.Stored.reads s s) c.self.view_is (λ running. quiet g.L.Stored.reads g.R.Stored.reads g.L.PartialEq.eq g.R.PartialEq.eq g.met.L.Eq.laws g.met.R.Eq.laws old old (c.self.invariant c.if-self.false) refl)

use Rattle.std.proofs.Common.{rules, ◌≡◌, true, false, refl, true≢false, Contains}
use Rattle.bimap_base.specs.Answer.{overwrites}
use Rattle.bimap_any.proofs.Survivors.{put_touches}
use Rattle.bimap.specs.declared.call.Call.TheVariants.{Insert, InsertNoOverwrite, InsertWith}
use Rattle.bimap.specs.declared.call.Reply.TheVariants.{Inserted, Put}
use Rattle.bimap.specs.History.{Puts}
use Rattle.bimap.specs.Test.{Answers}
use Rattle.bimap_any.proofs.Growing.{answer_overwrites, room_after}
use Rattle.bimap.proofs.Tested.{MayTest_by, IsKept-by, may_call, answers_as}
use Rattle.bimap.proofs.Histories.{right_contains_left, right_contains_right, step_retain}
use Rattle.bimap.proofs.runs.perform.Goals as goal

pub retain-requires : goal.retain-requires
retain-requires g c = record {
  may =
      MayTest_by _ (λ s. (s.0.now ≡ c.args.test.now) × (s.1.now ≡ c.in-Retain.key)) (λ s a b t i e. search rules) _ _ (refl, refl)
      (λ s l r i m. may_call g.F.Fn c.args.test.now _ c.in-Retain.key s.1 l r i.0 i.1 (c.requires.may c.in-Retain.key (l.now, r.now) c.in-Retain.is m));
}

pub returns-in-Ok-clause-step : goal.returns-in-Ok-clause-step
returns-in-Ok-clause-step g c = rw c.in-Insert.is (put_touches g.L.PartialEq.eq g.R.PartialEq.eq _ _ _ c.in-Ok.ensures.answer.put)

pub returns-in-Ok-insert_no_overwrite-clause-step :
    goal.returns-in-Ok-insert_no_overwrite-clause-step
returns-in-Ok-insert_no_overwrite-clause-step g c = rw c.in-InsertNoOverwrite.is (put_touches g.L.PartialEq.eq g.R.PartialEq.eq _ _ _ c.in-Ok-insert_no_overwrite.ensures.answer.put)

pub returns-in-Ok-clause-room : goal.returns-in-Ok-clause-room
returns-in-Ok-clause-room g c =
    let e = c.in-Ok.ensures.answer in
    let pair : g.row.L.Denot × g.row.R.Denot = (c.in-Insert.left, c.in-Insert.right) in
    rw c.in-Insert.is (room_after g.L.PartialEq.eq g.R.PartialEq.eq (Puts {K = g.row.K.Denot}) (g.B.Bijection.holding c.args.bimap.now) (g.B.Bijection.holding c.insert.new.self) pair (Insert pair.0 pair.1, Inserted c.in-Ok.answer) (overwrites c.in-Ok.answer) refl (g.met.B.Bijection.fits c.args.bimap.now)
    (answer_overwrites g.L.PartialEq.eq g.R.PartialEq.eq (Contains (g.B.Bijection.holding c.args.bimap.now).pairs) pair c.in-Ok.answer e.answer) e.room)

pub returns-in-Ok-insert_no_overwrite-clause-room :
    goal.returns-in-Ok-insert_no_overwrite-clause-room
returns-in-Ok-insert_no_overwrite-clause-room g c =
    let e = c.in-Ok-insert_no_overwrite.ensures.answer in
    let pair : g.row.L.Denot × g.row.R.Denot = (c.in-InsertNoOverwrite.left, c.in-InsertNoOverwrite.right) in
    rw c.in-InsertNoOverwrite.is (room_after g.L.PartialEq.eq g.R.PartialEq.eq (Puts {K = g.row.K.Denot}) (g.B.Bijection.holding c.args.bimap.now) (g.B.Bijection.holding c.insert_no_overwrite.new.self) pair (InsertNoOverwrite pair.0 pair.1, Put) false refl (g.met.B.Bijection.fits c.args.bimap.now) e.none_held e.room)

pub returns-in-Ok-insert_with-clause-room : goal.returns-in-Ok-insert_with-clause-room
returns-in-Ok-insert_with-clause-room g c =
    let e = c.in-Ok-insert_with.ensures.answer in
    let pair : g.row.L.Denot × g.row.R.Denot = (c.in-InsertWith.left, c.in-InsertWith.right) in
    rw c.in-InsertWith.is (room_after g.L.PartialEq.eq g.R.PartialEq.eq (Puts {K = g.row.K.Denot}) (g.B.Bijection.holding c.args.bimap.now) (g.B.Bijection.holding c.insert_with.new.self) pair (InsertWith pair.0 pair.1 c.in-InsertWith.policy, Inserted c.in-Ok-insert_with.answer) (overwrites c.in-Ok-insert_with.answer) refl (g.met.B.Bijection.fits c.args.bimap.now)
    (answer_overwrites g.L.PartialEq.eq g.R.PartialEq.eq (Contains (g.B.Bijection.holding c.args.bimap.now).pairs) pair c.in-Ok-insert_with.answer e.answer) e.room)

pub returns-in-Retain-clause-step : goal.returns-in-Retain-clause-step
returns-in-Retain-clause-step g c =
    rw c.in-Retain.is (step_retain g.L.PartialEq.eq g.R.PartialEq.eq (Answers g.F.Fn c.args.test.now) _ _ c.in-Retain.key
    (IsKept-by _ (λ s. (s.0.now ≡ c.args.test.now) × (s.1.now ≡ c.in-Retain.key)) (λ s a b t i e. search rules)
    (Answers g.F.Fn c.args.test.now c.in-Retain.key) (λ s l r b t i e. answers_as g.F.Fn c.args.test.now s.0.now c.in-Retain.key s.1 l r b i.0 i.1 (search rules))
    _ _ _ (refl, refl) c.retain.ensures.retained.kept
    (λ p m t f. true≢false ((c.requires.may c.in-Retain.key p c.in-Retain.is m).one_answer true false t f))))

pub returns-in-Ok-insert_with-clause-step : goal.returns-in-Ok-insert_with-clause-step
returns-in-Ok-insert_with-clause-step g c =
    rw c.in-InsertWith.is (put_touches g.L.PartialEq.eq g.R.PartialEq.eq _ _ _ c.in-Ok-insert_with.ensures.answer.put)

pub returns-in-ContainsLeft-clause-right : goal.returns-in-ContainsLeft-clause-right
returns-in-ContainsLeft-clause-right g c =
    rw c.in-ContainsLeft.is (right_contains_left g.L.PartialEq.eq g.R.PartialEq.eq (Contains (g.B.Bijection.holding c.args.bimap.now).pairs) g.row.K.Denot c.in-ContainsLeft.left _ c.contains_left.ensures)

pub returns-in-ContainsRight-clause-right : goal.returns-in-ContainsRight-clause-right
returns-in-ContainsRight-clause-right g c =
    rw c.in-ContainsRight.is (right_contains_right g.L.PartialEq.eq g.R.PartialEq.eq (Contains (g.B.Bijection.holding c.args.bimap.now).pairs) g.row.K.Denot c.in-ContainsRight.right _ c.contains_right.ensures)

use Rattle.std.proofs.Common.{arith, refl, Contains}
use Rattle.std.proofs.lemmas.Bool.{or_left, or_right, or_from}
use Rattle.bimap_base.specs.Sets.{NoneShares}
use Rattle.bimap_base.proofs.Counts.{none_named}
use Rattle.bimap_any.proofs.Positions.{stands_last}
use Rattle.bimap_any.proofs.bijection.Bijection.insert_no_overwrite.Goals as goal

pub returns-in-Ok-clause-answer : goal.returns-in-Ok-clause-answer
returns-in-Ok-clause-answer g c =
    let e = c.in-Ok.ensures.answer in
    let held = Contains (g.Self.Bijection.holding c.args.self.now).pairs in
    let none : NoneShares g.L.PartialEq.eq g.R.PartialEq.eq held (c.args.left, c.args.right) = λ q m. or_from _ _ (e.allowed.left refl q m) (e.allowed.right refl q m) in
    let named = none_named g.L.PartialEq.eq g.R.PartialEq.eq held (c.args.left, c.args.right) c.in-Ok.field-0 none e.answer in
    record { none_held = none; put = e.put; count = omega (arith, named, e.count); refused = tt; unchanged = tt; room = c.insert_with.ensures.answer.room }

pub returns-in-Ok-clause-position : goal.returns-in-Ok-clause-position
returns-in-Ok-clause-position g c appends =
    let answer = returns-in-Ok-clause-answer g c in
    stands_last _ (c.args.left, c.args.right) c.in-Ok.field-0 _ (omega (arith, answer.count, c.in-Ok.ensures.answer.count)) (c.in-Ok.ensures.position appends)

pub returns-in-Err-LeftHeld-clause-answer : goal.returns-in-Err-LeftHeld-clause-answer
returns-in-Err-LeftHeld-clause-answer g c =
    let h = rw c.in-Err-LeftHeld.field-0-is at c.in-Err-LeftHeld.ensures.answer.refused in
    record { none_held = tt; put = tt; count = tt; refused = (h.0, (h.2.0, h.2.1, or_left _ _ h.2.2)); unchanged = c.in-Err-LeftHeld.ensures.answer.unchanged; room = c.insert_with.ensures.answer.room }

pub returns-in-Err-RightHeld-clause-answer : goal.returns-in-Err-RightHeld-clause-answer
returns-in-Err-RightHeld-clause-answer g c =
    let h = rw c.in-Err-RightHeld.field-0-is at c.in-Err-RightHeld.ensures.answer.refused in
    record { none_held = tt; put = tt; count = tt; refused = (h.0, (h.3.0, h.3.1, or_right _ _ h.3.2)); unchanged = c.in-Err-RightHeld.ensures.answer.unchanged; room = c.insert_with.ensures.answer.room }

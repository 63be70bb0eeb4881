use Rattle.std.proofs.Common.{◌∙◌, sym, ap, Contains, true≢false}
use Rattle.std.proofs.lemmas.Bool.{false_from_ne_true}
use Rattle.bimap_base.specs.Sets.{HasRight}
use Rattle.bimap_any.proofs.Inserted.{inserted_inverse, memory_inverse, right_held, both_held, left_held}
use Rattle.bimap_any.proofs.inverse.InverseBijection.insert_with.Goals.{else-keep_left-via-then-keep_left+else-contains_right, else-keep_left-via-else-keep_left}
use Rattle.bimap_any.proofs.inverse.InverseBijection.insert_with.Goals as goal

pub returns-in-Ok-clause-answer : goal.returns-in-Ok-clause-answer
returns-in-Ok-clause-answer g c = rw c.exchange_answer.ensures (inserted_inverse c.in-Ok.ensures.answer)

pub returns-in-Err-RightHeld-clause-answer : goal.returns-in-Err-RightHeld-clause-answer
returns-in-Err-RightHeld-clause-answer g c = right_held (rw c.in-Err-RightHeld.field-0-is at c.in-Err-RightHeld.ensures.answer)

pub returns-in-Err-Memory-clause-answer : goal.returns-in-Err-Memory-clause-answer
returns-in-Err-Memory-clause-answer g c = memory_inverse (rw c.in-Err-Memory.field-0-is at c.in-Err-Memory.ensures.answer)

pub returns-then-contains_right-clause-answer : goal.returns-then-contains_right-clause-answer
returns-then-contains_right-clause-answer g c =
    let h = rw c.in-Err-LeftHeld.field-0-is at c.in-Err-LeftHeld.ensures.answer in
    both_held h (c.refuses-keep_left.ensures.0 c.if-keep_left.true)
    (rw (h.unchanged, ap (λ (z : _ × _). z.1) h.refused.0) at c.contains_right.ensures.0 c.if-contains_right.true)

pub returns-else-keep_left-clause-answer : goal.returns-else-keep_left-clause-answer
returns-else-keep_left-clause-answer g c =
    let h = rw c.in-Err-LeftHeld.field-0-is at c.in-Err-LeftHeld.ensures.answer in
    left_held h (λ e q m. false_from_ne_true (g.R.PartialEq.eq q.1 c.args.left) (λ t.
    let has : HasRight g.R.PartialEq.eq (Contains (g.B.Bijection.holding c.insert_with.new.self).pairs) c.in-Err-LeftHeld.left = rw (h.unchanged, ap (λ (z : _ × _). z.1) h.refused.0) (q, m, t) in
    elim c.else-keep_left.branch [
      | else-keep_left-via-then-keep_left+else-contains_right w ↦ true≢false (sym (w.contains_right.ensures.1 has) ∙ w.if-contains_right.false)
      | else-keep_left-via-else-keep_left w ↦ true≢false (sym (c.refuses-keep_left.ensures.1 e) ∙ w.if-keep_left.false)
    ]))

use Rattle.std.proofs.Common.{◌≡◌, ◌∙◌, true, Some, subst}
use Rattle.bimap.proofs.LookUps.{found_by_right}
use Rattle.bimap_undo.specs.declared.refusal.NotRecorded.TheVariants.{Refused}
use Rattle.bimap_undo.specs.declared.entry.Entry.TheVariants.{RightReplaced}
use Rattle.bimap_undo.specs.Marks.{IsChange}
use Rattle.bimap_undo.proofs.Replaced.{refused, marks_recorded, recorded}
use Rattle.bimap_undo.proofs.undoable.Undoable.replace_right.Goals as goal

pub invariant_of-self : goal.invariant_of-self
invariant_of-self g c = rw c.reserve.ensures.items c.self.invariant

pub invariant_of-self-in-Err-replace_right : goal.invariant_of-self-in-Err-replace_right
invariant_of-self-in-Err-replace_right g c = rw (c.reserve.ensures.items, c.in-Err.ensures.answer.unchanged) c.self.invariant

change : (g : _) (c : goal.After-push_reserved g) → IsChange g.L.PartialEq.eq g.R.PartialEq.eq (g.B.Bijection.holding c.self.inside.bimap).pairs (RightReplaced c.in-Ok.copy c.in-Ok-replace_right.old) (g.B.Bijection.holding c.replace_right.new.bimap).pairs
change g c =
    let replaced = c.in-Ok-replace_right.ensures.answer.replaced in
    let found : Some c.in-Some.left.now ≡ Some replaced.other = rw c.in-Some.is at (found_by_right g.L.PartialEq.eq g.R.PartialEq.eq g.met.L.Eq.laws g.met.R.Eq.laws (g.B.Bijection.holding c.self.inside.bimap) c.args.from.now c.in-Ok-replace_right.old replaced.other c.get_by_right.result (g.met.B.Bijection.apart c.self.inside.bimap) replaced.exchanged.member replaced.by_part c.get_by_right.ensures) in
    let one : c.in-Some.left.now ≡ replaced.other = cc in
    record {
      pair = (replaced.other, c.args.to);
      by_left = g.met.L.Eq.laws.symm replaced.other c.in-Ok.copy ∙ subst (λ left. g.L.PartialEq.eq c.in-Ok.copy left ≡ true) one c.in-Ok.ensures;
      exchanged = replaced.exchanged;
    }

pub invariant_of-self-in-Ok-replace_right : goal.invariant_of-self-in-Ok-replace_right
invariant_of-self-in-Ok-replace_right g c = marks_recorded g.L.PartialEq.eq g.R.PartialEq.eq (λ p. p.1) (λ r l. (l, r)) g.R.PartialEq.eq (λ left old. RightReplaced left old) (g.B.Bijection.holding c.self.inside.bimap) (g.B.Bijection.holding c.replace_right.new.bimap) c.self.inside.changes.items c.push_reserved.new.self.items c.args.from.now c.args.to c.in-Ok.copy c.in-Ok-replace_right.old (g.met.B.Bijection.apart c.replace_right.new.bimap) c.in-Ok-replace_right.ensures.answer.replaced (change g c) c.replace_right.ensures.answer.count c.replace_right.ensures.answer.room c.reserve.new.self.items c.push_reserved.ensures.items c.reserve.ensures.items c.self.invariant (g.met.B.Bijection.fits c.replace_right.new.bimap)

pub returns-in-Ok-replace_right : goal.returns-in-Ok-replace_right
returns-in-Ok-replace_right g c = rw (← c.self.view_is) (recorded g.L.PartialEq.eq g.R.PartialEq.eq (λ p. p.1) (λ r l. (l, r)) g.R.PartialEq.eq (λ left old. RightReplaced left old) (g.B.Bijection.holding c.self.inside.bimap) (g.B.Bijection.holding c.replace_right.new.bimap) c.self.inside.changes.items c.push_reserved.new.self.items c.args.from.now c.args.to c.in-Ok.copy c.in-Ok-replace_right.old (g.met.B.Bijection.apart c.replace_right.new.bimap) c.in-Ok-replace_right.ensures.answer.replaced (change g c) c.replace_right.ensures.answer.count c.replace_right.ensures.answer.room c.reserve.new.self.items c.push_reserved.ensures.items c.reserve.ensures.items)

pub returns-in-Err : goal.returns-in-Err
returns-in-Err g c = rw (← c.self.view_is) (refused g.L.PartialEq.eq g.R.PartialEq.eq (λ p. p.1) (λ r l. (l, r)) g.R.PartialEq.eq (λ left old. RightReplaced left old) (g.B.Bijection.holding c.self.inside.bimap) (g.B.Bijection.holding c.replace_right.new.bimap) c.self.inside.changes.items c.reserve.new.self.items c.args.from.now c.args.to (Refused c.in-Err.why) c.in-Err.ensures.answer.refused c.in-Err.ensures.answer.unchanged c.reserve.ensures.items)

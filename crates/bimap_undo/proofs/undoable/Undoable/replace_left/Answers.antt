use Rattle.std.proofs.Common.{◌∙◌}
use Rattle.bimap_undo.specs.declared.refusal.NotRecorded.TheVariants.{Refused}
use Rattle.bimap_undo.specs.declared.entry.Entry.TheVariants.{LeftReplaced}
use Rattle.bimap_undo.specs.Marks.{IsChange}
use Rattle.bimap_undo.proofs.Replaced.{refused, marks_recorded, recorded}
use Rattle.bimap_undo.proofs.undoable.Undoable.replace_left.Goals as goal

pub invariant_of-self : goal.invariant_of-self
invariant_of-self g c = rw c.reserve.ensures.items c.self.invariant

pub invariant_of-self-in-Err-replace_left : goal.invariant_of-self-in-Err-replace_left
invariant_of-self-in-Err-replace_left g c = rw (c.reserve.ensures.items, c.in-Err.ensures.answer.unchanged) c.self.invariant

change : (g : _) (c : goal.After-push_reserved g) → IsChange g.L.PartialEq.eq g.R.PartialEq.eq (g.B.Bijection.holding c.self.inside.bimap).pairs (LeftReplaced c.in-Ok.copy c.in-Ok-replace_left.old) (g.B.Bijection.holding c.replace_left.new.bimap).pairs
change g c =
    let replaced = c.in-Ok-replace_left.ensures.answer.replaced in
    record {
      pair = (c.args.to, replaced.other);
      by_left = g.met.L.Eq.laws.symm c.args.to c.in-Ok.copy ∙ c.in-Ok.ensures;
      exchanged = replaced.exchanged;
    }

pub invariant_of-self-in-Ok-replace_left : goal.invariant_of-self-in-Ok-replace_left
invariant_of-self-in-Ok-replace_left g c = marks_recorded g.L.PartialEq.eq g.R.PartialEq.eq (λ p. p.0) (λ l r. (l, r)) g.L.PartialEq.eq (λ left old. LeftReplaced left old) (g.B.Bijection.holding c.self.inside.bimap) (g.B.Bijection.holding c.replace_left.new.bimap) c.self.inside.changes.items c.push_reserved.new.self.items c.args.from.now c.args.to c.in-Ok.copy c.in-Ok-replace_left.old (g.met.B.Bijection.apart c.replace_left.new.bimap) c.in-Ok-replace_left.ensures.answer.replaced (change g c) c.replace_left.ensures.answer.count c.replace_left.ensures.answer.room c.reserve.new.self.items c.push_reserved.ensures.items c.reserve.ensures.items c.self.invariant (g.met.B.Bijection.fits c.replace_left.new.bimap)

pub returns-in-Ok-replace_left : goal.returns-in-Ok-replace_left
returns-in-Ok-replace_left g c = rw (← c.self.view_is) (recorded g.L.PartialEq.eq g.R.PartialEq.eq (λ p. p.0) (λ l r. (l, r)) g.L.PartialEq.eq (λ left old. LeftReplaced left old) (g.B.Bijection.holding c.self.inside.bimap) (g.B.Bijection.holding c.replace_left.new.bimap) c.self.inside.changes.items c.push_reserved.new.self.items c.args.from.now c.args.to c.in-Ok.copy c.in-Ok-replace_left.old (g.met.B.Bijection.apart c.replace_left.new.bimap) c.in-Ok-replace_left.ensures.answer.replaced (change g c) c.replace_left.ensures.answer.count c.replace_left.ensures.answer.room c.reserve.new.self.items c.push_reserved.ensures.items c.reserve.ensures.items)

pub returns-in-Err : goal.returns-in-Err
returns-in-Err g c = rw (← c.self.view_is) (refused g.L.PartialEq.eq g.R.PartialEq.eq (λ p. p.0) (λ l r. (l, r)) g.L.PartialEq.eq (λ left old. LeftReplaced left old) (g.B.Bijection.holding c.self.inside.bimap) (g.B.Bijection.holding c.replace_left.new.bimap) c.self.inside.changes.items c.reserve.new.self.items c.args.from.now c.args.to (Refused c.in-Err.why) c.in-Err.ensures.answer.refused c.in-Err.ensures.answer.unchanged c.reserve.ensures.items)

use Rattle.std.proofs.Common.{◌≡◌, ◌∙◌, ap, refl, Bool, Contains, ◌++◌, ◌∷◌, [], length, length-append}
use Rattle.std.proofs.lemmas.Result.{err_from_is_err_and}
use Rattle.bimap_undo.specs.declared.entry.Entry.TheVariants.{Inserted}
use Rattle.bimap.specs.Answer.{IsRefusalUnder}
use Rattle.bimap.specs.Types.{Policy, NotInsertedWith}
use Rattle.bimap.specs.declared.NotInsertedWith.TheVariants.{LeftHeld, RightHeld, Memory as MemoryWith}
use Rattle.bimap_undo.specs.Marks.{marked, IsChange, IsRecordedRefusal}
use Rattle.bimap_undo.proofs.Paths.{overwrites_where_shared, keeps_push, marks_push}
use Rattle.bimap_undo.proofs.undoable.Undoable.insert_with.Goals as goal

pub invariant_of-self : goal.invariant_of-self
invariant_of-self g c = rw c.reserve.ensures.items c.self.invariant

pub invariant_of-self-in_err-answer : goal.invariant_of-self-in_err-answer
invariant_of-self-in_err-answer g c = rw (c.reserve.ensures.items, c.in_err-answer.ensures.answer.unchanged) c.self.invariant

grown : (g : _) (c : goal.After-push_reserved g) → c.push_reserved.new.self.items ≡ c.self.inside.changes.items ++ Inserted c.in-Ok.copy c.in_ok-answer.answer ∷ []
grown g c = c.push_reserved.ensures.items ∙ ap (λ es. es ++ Inserted c.in-Ok.copy c.in_ok-answer.answer ∷ []) c.reserve.ensures.items

change : (g : _) (c : goal.After-push_reserved g) → IsChange g.L.PartialEq.eq g.R.PartialEq.eq (g.B.Bijection.holding c.self.inside.bimap).pairs (Inserted c.in-Ok.copy c.in_ok-answer.answer) (g.B.Bijection.holding c.insert_with.new.self).pairs
change g c = record {
  pair = (c.args.left, c.args.right);
  by_left = g.met.L.Eq.laws.symm c.args.left c.in-Ok.copy ∙ c.in-Ok.ensures;
  is_answer = c.in_ok-answer.ensures.answer.answer;
  put = c.in_ok-answer.ensures.answer.put;
}

pub invariant_of-self-2 : goal.invariant_of-self-2
invariant_of-self-2 g c =
    marks_push g.L.PartialEq.eq g.R.PartialEq.eq
    (marked (g.B.Bijection.holding c.self.inside.bimap) c.self.inside.changes.items)
    (marked (g.B.Bijection.holding c.insert_with.new.self) c.push_reserved.new.self.items)
    (Inserted c.in-Ok.copy c.in_ok-answer.answer) (grown g c) (g.met.B.Bijection.apart c.insert_with.new.self) (change g c)
    c.self.invariant c.insert_with.ensures.answer.room.not_lower (g.met.B.Bijection.fits c.insert_with.new.self)

pub returns : goal.returns
returns g c =
    rw (← c.self.view_is)
    (record {
      overwrote = rw c.did_overwrite-overwrote.ensures (overwrites_where_shared g.L.PartialEq.eq g.R.PartialEq.eq (Contains (g.B.Bijection.holding c.self.inside.bimap).pairs) (c.args.left, c.args.right) c.in_ok-answer.answer c.in_ok-answer.ensures.answer.answer);
      put = c.in_ok-answer.ensures.answer.put;
      recorded = ap length (grown g c) ∙ length-append c.self.inside.changes.items (Inserted c.in-Ok.copy c.in_ok-answer.answer ∷ []);
      last = record {
        left = c.in-Ok.copy;
        answer = c.in_ok-answer.answer;
        by_left = g.met.L.Eq.laws.symm c.args.left c.in-Ok.copy ∙ c.in-Ok.ensures;
        is_answer = c.in_ok-answer.ensures.answer.answer;
        count = c.in_ok-answer.ensures.answer.count;
        entries = grown g c;
      };
      kept = keeps_push g.L.PartialEq.eq g.R.PartialEq.eq
          (marked (g.B.Bijection.holding c.self.inside.bimap) c.self.inside.changes.items)
          (marked (g.B.Bijection.holding c.insert_with.new.self) c.push_reserved.new.self.items)
          (Inserted c.in-Ok.copy c.in_ok-answer.answer) (grown g c) (g.met.B.Bijection.apart c.insert_with.new.self) (change g c);
      room = c.insert_with.ensures.answer.room;
      allowed = c.in_ok-answer.ensures.answer.allowed;
      refused = tt;
      unchanged = tt;
    })

recorded_refusal : {L R : Type 0} (same_left : L → L → Bool) (same_right : R → R → Bool) (S : L × R → Type 0) (NoPlace : Type 0) (new : L × R) (policy : Policy) (e : NotInsertedWith L R) → IsRefusalUnder same_left same_right S NoPlace new policy e → IsRecordedRefusal same_left same_right S new policy e
recorded_refusal same_left same_right S NoPlace new policy (LeftHeld l r) why = why
recorded_refusal same_left same_right S NoPlace new policy (RightHeld l r) why = why
recorded_refusal same_left same_right S NoPlace new policy (MemoryWith l r) why = why.0

pub returns-in_err-answer : goal.returns-in_err-answer
returns-in_err-answer g c =
    let p = err_from_is_err_and c.from_residual.result c.from_residual.ensures.1 in
    rw (← c.self.view_is, p.1, p.2)
    (record {
      allowed = tt;
      overwrote = tt;
      put = tt;
      recorded = tt;
      last = tt;
      kept = tt;
      room = c.insert_with.ensures.answer.room;
      refused = recorded_refusal g.L.PartialEq.eq g.R.PartialEq.eq _ _ (c.args.left, c.args.right) c.args.policy c.in_err-answer.field-0.0 c.in_err-answer.ensures.answer.refused;
      unchanged = rw (c.reserve.ensures.items, c.in_err-answer.ensures.answer.unchanged) refl;
    })

use Rattle.std.proofs.Common.{◌≡◌, ◌↔◌, ◌≤◌, ◌∙◌, Bool, ap, inl, inr, refl, sym, subst, arith, length, Contains, rules}
use Rattle.std.proofs.lemmas.List.{length_push}
use Rattle.bimap.specs.Sets.{IsApart}
use Rattle.bimap.specs.Types.{Policy, NotInsertedWith}
use Rattle.bimap.proofs.Extending.{ArePutIn, put_in_none, put_in_more, all_put_in, item_after}
use Rattle.bimap.specs.declared.NotInsertedWith.TheVariants.{LeftHeld, RightHeld, Memory}
use Rattle.bimap_undo.specs.Marks.{Marked, KeepsMarks, IsRecordedRefusal}
use Rattle.bimap_undo.proofs.Items.{held_after}
use Rattle.bimap_undo.proofs.Paths.{keeps_all, keeps_below, keeps_through}
use Rattle.bimap_undo.proofs.undoable.Undoable.insert_all.Goals as goal

pub loop-left-init : goal.loop-left-init
loop-left-init g c =
    let ready = c.requires.ends _ c.into_iter-left-iterator.ensures.into_iter_gives in
    record {
      callable = ready.0;
      ends = ready.1;
      taken = refl;
      apart = c.mark-mark.ensures.stands_for_what_is_held.apart;
      fits = subst (λ held. length held.pairs ≤ held.room) c.held-before.ensures (g.met.B.Bijection.fits c.held-before.result.now);
      put_in = put_in_none g.L.PartialEq.eq g.R.PartialEq.eq c.args.self.now.held c.args.policy;
      recorded = omega arith;
      kept = keeps_all g.L.PartialEq.eq g.R.PartialEq.eq c.args.self.now (length c.args.self.now.entries);
    }

pub loop-left-preserved : goal.loop-left-preserved
loop-left-preserved g c =
    let p = c.in-Some.ensures.goes.on c.loop-left.invariant.ends in
    let more = length_push c.loop-left.yielded (c.in-Some.left, c.in-Some.right) in
    let i = c.loop-left.invariant in
    let e = c.in_default.ensures in
    let apart = subst (λ held. IsApart g.L.PartialEq.eq g.R.PartialEq.eq held.pairs) c.held-held.ensures (g.met.B.Bijection.apart c.held-held.result.now) in
    record {
      callable = p.0;
      ends = p.1;
      taken = omega (arith, more, c.saturating_add-taken.ensures, i.taken);
      apart = apart;
      put_in = put_in_more g.L.PartialEq.eq g.R.PartialEq.eq c.args.self.now.held c.loop-left.yielded c.args.policy c.loop-left.self.held (c.in-Some.left, c.in-Some.right) e.last.answer c.insert_with.new.self.held
          g.met.L.Eq.laws g.met.R.Eq.laws i.apart apart i.fits i.put_in e.allowed e.last.is_answer e.put e.room;
      fits = subst (λ held. length held.pairs ≤ held.room) c.held-held.ensures (g.met.B.Bijection.fits c.held-held.result.now);
      recorded = omega (arith, more, e.recorded, i.recorded);
      kept = keeps_through g.L.PartialEq.eq g.R.PartialEq.eq c.args.self.now c.loop-left.self c.insert_with.new.self (length c.args.self.now.entries) i.kept
          (keeps_below g.L.PartialEq.eq g.R.PartialEq.eq c.loop-left.self c.insert_with.new.self (length c.loop-left.self.entries) (length c.args.self.now.entries) (omega (arith, i.recorded)) e.kept);
    }

pub back_to-requires : goal.back_to-requires
back_to-requires g c = record { recorded = omega (arith, ap (λ (u : Marked g.row.L.Denot g.row.R.Denot). length u.entries) c.in-Err.ensures.unchanged, c.loop-left.invariant.recorded, c.mark-mark.ensures.recorded) }

recorded_along : {L R : Type 0} (same_left : L → L → Bool) (same_right : R → R → Bool) (S T : L × R → Type 0) (new : L × R) (policy : Policy) (why : NotInsertedWith L R) → ((p : L × R) → S p ↔ T p) → IsRecordedRefusal same_left same_right S new policy why → IsRecordedRefusal same_left same_right T new policy why
recorded_along same_left same_right S T new policy (LeftHeld l r) same w = (w.0, w.1, (w.2.0, (same w.2.0).0 w.2.1, w.2.2))
recorded_along same_left same_right S T new policy (RightHeld l r) same w = (w.0, λ refuses q m. w.1 refuses q ((same q).1 m), w.2, (w.3.0, (same w.3.0).0 w.3.1, w.3.2))
recorded_along same_left same_right S T new policy (Memory l r) same w = w

pub returns-in-Err-clause-none : goal.returns-in-Err-clause-none
returns-in-Err-clause-none g c =
    let first : Marked g.row.L.Denot g.row.R.Denot = c.args.self.now in
    let held : Marked g.row.L.Denot g.row.R.Denot = c.loop-left.self in
    let i = c.loop-left.invariant in
    let e = c.in-Err.ensures in
    let it = c.into_iter-left-iterator in
    let mark = c.mark-mark.ensures.recorded in
    let back = c.back_to.ensures in
    let same : held ≡ c.insert_with.new.self = sym e.unchanged in
    let put_in = subst (λ (u : Marked g.row.L.Denot g.row.R.Denot). ArePutIn g.L.PartialEq.eq g.R.PartialEq.eq first.held c.loop-left.yielded c.args.policy u.held) same i.put_in in
    let kept = subst (λ (u : Marked g.row.L.Denot g.row.R.Denot). KeepsMarks g.L.PartialEq.eq g.R.PartialEq.eq first (length first.entries) u) same i.kept in
    record {
      items = c.loop-left.yielded;
      item = (c.in-Some.left, c.in-Some.right);
      is_next = item_after g.L.PartialEq.eq g.R.PartialEq.eq _ _ c.loop-left.yielded (c.in-Some.left, c.in-Some.right) _ it.result c.next.new.self it.ensures.into_iter_gives (c.loop-left.left-iterator, c.loop-left.yielded_by, c.in-Some.ensures.steps) i.taken;
      allowed = put_in.allowed;
      why = recorded_along g.L.PartialEq.eq g.R.PartialEq.eq (Contains held.held.pairs) _ (c.in-Some.left, c.in-Some.right) c.args.policy c.in-Err.why i.put_in.survivors e.refused;
      held = back.gone_back.held first.held.pairs (kept.sets c.mark-mark.result (omega (arith, mark)) first.held.pairs c.mark-mark.ensures.stands_for_what_is_held);
      recorded = back.gone_back.recorded ∙ mark;
      kept = keeps_through g.L.PartialEq.eq g.R.PartialEq.eq first c.insert_with.new.self c.back_to.new.self (length first.entries) kept (subst (λ m. KeepsMarks g.L.PartialEq.eq g.R.PartialEq.eq c.insert_with.new.self m c.back_to.new.self) mark back.gone_back.kept);
      room = record {
        not_lower = omega (arith, put_in.room.not_lower, back.room);
        had_places = λ fits. back.room ∙ put_in.room.had_places fits;
        outgrown = elim put_in.room.outgrown [
          | inl stays ↦ inl (back.room ∙ stays)
          | inr o ↦ inr (rw back.room o)
        ];
      };
    }

pub returns-clause-all : goal.returns-clause-all
returns-clause-all g c =
    let it = c.into_iter-left-iterator in
    let i = c.loop-left.invariant in
    record {
      put_in = all_put_in g.L.PartialEq.eq g.R.PartialEq.eq _ _ c.args.self.now.held c.loop-left.yielded c.args.policy c.loop-left.self.held it.result it.ensures.into_iter_gives (search rules) i.put_in;
      held = held_after g.L.PartialEq.eq g.R.PartialEq.eq g.met.L.Eq.laws g.met.R.Eq.laws c.args.self.now.held c.loop-left.yielded c.args.policy c.loop-left.self.held c.mark-mark.ensures.stands_for_what_is_held.apart i.apart i.put_in;
      recorded = i.recorded;
      kept = i.kept;
    }

use Rattle.std.proofs.Common.{◌≡◌, ◌<◌, inl, inr, ◌++◌, ◌∷◌, [], length, List, refl, sym, ap, ◌∙◌, subst, arith, append_assoc}
use Rattle.std.proofs.lemmas.List.{append-nil, length_push}
use Rattle.bimap_base.specs.Answer.{IsBoth}
use Rattle.bimap_base.specs.Holding.{IsFull}
use Rattle.bimap_base.specs.declared.overwritten.Overwritten.{Overwritten}
use Rattle.bimap.specs.Trail.{Leads, LeadsWithin, IsRoomAfterUndoing}
use Rattle.bimap.proofs.Trails.{room_undone, leads_undoable, leads_pop, leads_within_pop, leads_within_spare, empty_from_length, both_or_not, two_at_most}
use Rattle.bimap.proofs.undone.undo_run.Goals as goal
use Rattle.bimap.proofs.undone.undo_run.Goals.{In-Some}

-- The entries of one round of the loop, with the last one apart.
led : (g : _) (c : In-Some g) (first : List (g.row.L.Denot × g.row.R.Denot)) → Leads g.L.PartialEq.eq g.R.PartialEq.eq first c.args.entries.items (g.B.Bijection.holding c.args.bimap.now).pairs → Leads g.L.PartialEq.eq g.R.PartialEq.eq first (c.pop.new.self.items ++ (c.in-Some.left, c.in-Some.answer) ∷ []) (g.B.Bijection.holding c.loop-left.bimap).pairs
led g c first h = subst (λ (es : List (g.row.L.Denot × Overwritten g.row.L.Denot g.row.R.Denot)). Leads g.L.PartialEq.eq g.R.PartialEq.eq first es (g.B.Bijection.holding c.loop-left.bimap).pairs) c.in-Some.ensures.items (c.loop-left.invariant.led first h)

led_within : (g : _) (c : In-Some g) (first : List (g.row.L.Denot × g.row.R.Denot)) → LeadsWithin g.L.PartialEq.eq g.R.PartialEq.eq (g.B.Bijection.holding c.args.bimap.now).room first c.args.entries.items (g.B.Bijection.holding c.args.bimap.now).pairs → LeadsWithin g.L.PartialEq.eq g.R.PartialEq.eq (g.B.Bijection.holding c.args.bimap.now).room first (c.pop.new.self.items ++ (c.in-Some.left, c.in-Some.answer) ∷ []) (g.B.Bijection.holding c.loop-left.bimap).pairs
led_within g c first h = subst (λ (es : List (g.row.L.Denot × Overwritten g.row.L.Denot g.row.R.Denot)). LeadsWithin g.L.PartialEq.eq g.R.PartialEq.eq (g.B.Bijection.holding c.args.bimap.now).room first es (g.B.Bijection.holding c.loop-left.bimap).pairs) c.in-Some.ensures.items (c.loop-left.invariant.fits first h).0

-- If the trail fits into the room, undoing a `Both` finds a free place.
spare : (g : _) (c : In-Some g) (first : List (g.row.L.Denot × g.row.R.Denot)) → LeadsWithin g.L.PartialEq.eq g.R.PartialEq.eq (g.B.Bijection.holding c.args.bimap.now).room first c.args.entries.items (g.B.Bijection.holding c.args.bimap.now).pairs → IsBoth c.in-Some.answer → length (g.B.Bijection.holding c.loop-left.bimap).pairs < (g.B.Bijection.holding c.loop-left.bimap).room
spare g c first h both =
    let s = leads_within_spare g.L.PartialEq.eq g.R.PartialEq.eq g.met.L.Eq.laws g.met.R.Eq.laws c.pop.new.self.items c.in-Some.left c.in-Some.answer (g.B.Bijection.holding c.loop-left.bimap).pairs first (g.B.Bijection.holding c.args.bimap.now).room (led_within g c first h) (g.met.B.Bijection.apart c.loop-left.bimap) both in
    omega (arith, s, c.loop-left.invariant.room.not_lower)

pub loop-left-init : goal.loop-left-init
loop-left-init g c = record { lenders = refl; undone = []; beginning = sym (append-nil c.args.entries.items); led = λ first h. h; no_longer = omega arith; room = record { not_lower = omega arith; at_most = omega arith; had_places = λ _. refl }; fits = λ first h. (h, refl) }

pub undo_insert-requires : goal.undo_insert-requires
undo_insert-requires g c = record {
  undoable =
      leads_undoable g.L.PartialEq.eq g.R.PartialEq.eq g.met.L.Eq.laws g.met.R.Eq.laws c.pop.new.self.items c.in-Some.left c.in-Some.answer (g.B.Bijection.holding c.loop-left.bimap).pairs c.requires.leads.0
      (led g (goal.at.undo_insert-requires g c).In-Some c.requires.leads.0 c.requires.leads.1);
}

pub returns-in-Err-clause-stopped : goal.returns-in-Err-clause-stopped
returns-in-Err-clause-stopped g c =
    let e = c.in-Err.ensures.answer in
    let same : c.loop-left.entries.items ≡ c.push_reserved.new.self.items =
    c.in-Some.ensures.items ∙ ap (λ (a : Overwritten g.row.L.Denot g.row.R.Denot). c.pop.new.self.items ++ (c.in-Some.left, a) ∷ []) (sym e.handed_back) ∙ sym c.push_reserved.ensures.items in
    record {
      undone = c.loop-left.invariant.undone;
      beginning = c.loop-left.invariant.beginning ∙ ap (λ es. es ++ c.loop-left.invariant.undone) same;
      both = record { before = c.pop.new.self.items; left = c.in-Some.left; answer = c.in-Err.stopped.answer; last = c.push_reserved.ensures.items; both = subst IsBoth (sym e.handed_back) e.both };
      full = subst IsFull (sym e.unchanged) e.full;
      led = λ first h.
          subst (λ (es : List (g.row.L.Denot × Overwritten g.row.L.Denot g.row.R.Denot)). Leads g.L.PartialEq.eq g.R.PartialEq.eq first es (g.B.Bijection.holding c.undo_insert.new.self).pairs) same
          (subst (λ held. Leads g.L.PartialEq.eq g.R.PartialEq.eq first c.loop-left.entries.items held.pairs) (sym e.unchanged) (c.loop-left.invariant.led first h));
    }

pub returns-in-Err-clause-room : goal.returns-in-Err-clause-room
returns-in-Err-clause-room g c = subst (IsRoomAfterUndoing (g.B.Bijection.holding c.args.bimap.now) c.args.entries.items) (sym c.in-Err.ensures.answer.unchanged) c.loop-left.invariant.room

pub returns-in-Err-clause-fits : goal.returns-in-Err-clause-fits
returns-in-Err-clause-fits g c = λ first h.
    let s = spare g (goal.at.returns-in-Err-clause-fits g c).In-Some first h c.in-Err.ensures.answer.both in
    absurd (omega (arith, s, c.in-Err.ensures.answer.full))

pub loop-left-preserved : goal.loop-left-preserved
loop-left-preserved g c =
    let now = (goal.at.loop-left-preserved g c).In-Some in
    let e = c.undo_insert.ensures.answer in
    let one_less = ap length c.in-Some.ensures.items ∙ length_push c.pop.new.self.items (c.in-Some.left, c.in-Some.answer) in
    record {
      lenders = c.in-Ok.ensures.lenders ∙ c.loop-left.invariant.lenders;
      undone = (c.in-Some.left, c.in-Some.answer) ∷ c.loop-left.invariant.undone;
      beginning = c.loop-left.invariant.beginning ∙ ap (λ es. es ++ c.loop-left.invariant.undone) c.in-Some.ensures.items ∙ append_assoc c.pop.new.self.items ((c.in-Some.left, c.in-Some.answer) ∷ []) c.loop-left.invariant.undone;
      led = λ first h.
          leads_pop g.L.PartialEq.eq g.R.PartialEq.eq g.met.L.Eq.laws g.met.R.Eq.laws c.pop.new.self.items c.in-Some.left c.in-Some.answer (g.B.Bijection.holding c.loop-left.bimap).pairs first (g.B.Bijection.holding c.undo_insert.new.self).pairs
          (led g now first h) c.in-Ok.ensures.answer.undone;
      no_longer = omega (arith, c.loop-left.invariant.no_longer, one_less, c.in-Ok.ensures.answer.count, two_at_most c.in-Some.answer);
      room = room_undone _ (g.B.Bijection.holding c.loop-left.bimap) _ c.args.entries.items (omega (arith, c.loop-left.invariant.no_longer, one_less)) c.loop-left.invariant.room e.room;
      fits = λ first h. (
        leads_within_pop g.L.PartialEq.eq g.R.PartialEq.eq g.met.L.Eq.laws g.met.R.Eq.laws c.pop.new.self.items c.in-Some.left c.in-Some.answer (g.B.Bijection.holding c.loop-left.bimap).pairs first (g.B.Bijection.holding c.args.bimap.now).room (g.B.Bijection.holding c.undo_insert.new.self).pairs
            (led_within g now first h) c.in-Ok.ensures.answer.undone,
        elim (both_or_not c.in-Some.answer) [ inl b ↦ e.room.had_place (spare g now first h b) | inr n ↦ e.room.in_place n ] ∙ (c.loop-left.invariant.fits first h).1,
      );
    }

pub returns-clause-undone : goal.returns-clause-undone
returns-clause-undone g c = λ first h.
    let none = empty_from_length c.loop-left.entries.items (sym c.loop-left.entries.ok.0 ∙ c.in_default.ensures.cases.0) in
    (subst (λ (es : List (g.row.L.Denot × Overwritten g.row.L.Denot g.row.R.Denot)). Leads g.L.PartialEq.eq g.R.PartialEq.eq first es (g.B.Bijection.holding c.loop-left.bimap).pairs) none (c.loop-left.invariant.led first h)).trail

pub returns-clause-fits : goal.returns-clause-fits
returns-clause-fits g c = λ first h. (refl, (c.loop-left.invariant.fits first h).1)

use Rattle.std.proofs.Common.{◌≡◌, true, List, length, sym, ap, ◌∙◌, subst, arith, Contains}
use Rattle.bimap_base.specs.Sets.{IsWithoutLeft}
use Rattle.bimap_base.specs.Answer.{IsBoth, named_count}
use Rattle.bimap_base.specs.Undoing.{IsUndone}
use Rattle.bimap_any.proofs.Fits.{names_one}
use Rattle.bimap_base.proofs.Room.{room_stays}
use Rattle.test_support.proofs.Undone.{one_back, two_back, one_apart, two_apart}
use Rattle.test_support.proofs.plain.changes.undo.Goals as goal

pub push_reserved-requires-in-Some-take_left : goal.push_reserved-requires-in-Some-take_left
push_reserved-requires-in-Some-take_left g c =
    omega (arith, c.push_reserved.ensures.len, c.push_reserved.ensures.capacity, c.in-Some-take_left.ensures.shorter, c.in-Some-take_left.ensures.capacity, c.in-Ok.ensures.ok)

-- what is left of the pairs at first without that of the left
left_over : (g : _) (c : goal.After-push_reserved-in-Some-take_left g) → IsWithoutLeft g.L.PartialEq.eq (Contains c.args.pairs.now.items) c.args.left.now (Contains c.take_left-in-Both.new.pairs.items)
left_over g c = subst (λ xs. IsWithoutLeft g.L.PartialEq.eq (Contains xs) c.args.left.now (Contains c.take_left-in-Both.new.pairs.items)) c.make_place.ensures.items c.in-Some-take_left.ensures.without

pub returns-in-Some-take_left-clause-undoing : goal.returns-in-Some-take_left-clause-undoing
returns-in-Some-take_left-clause-undoing g c =
    let e = c.in-Some-take_left.ensures in
    let two = two_back g.L.PartialEq.eq g.R.PartialEq.eq c.args.pairs.now.items c.take_left-in-Both.new.pairs.items c.push_reserved.new.self.items c.push_reserved-in-Some-take_left.new.self.items c.args.left.now c.in-Both.first c.in-Both.second (left_over g c) c.push_reserved.ensures.items c.push_reserved-in-Some-take_left.ensures.items in
    let stays = c.push_reserved-in-Some-take_left.ensures.capacity ∙ c.push_reserved.ensures.capacity ∙ e.capacity in
    record {
      taken = subst (λ (xs : List (g.row.L.Denot × g.row.R.Denot)). Contains xs c.in-Some-take_left.old × (g.L.PartialEq.eq c.in-Some-take_left.old.0 c.args.left.now ≡ true)) c.make_place.ensures.items e.removed;
      undone = subst (λ a. IsUndone g.L.PartialEq.eq g.R.PartialEq.eq (Contains c.args.pairs.now.items) c.args.left.now a (Contains c.push_reserved-in-Some-take_left.new.self.items)) (sym c.in-Both.is) two;
      count = omega (arith, e.shorter, ap named_count c.in-Both.is, c.push_reserved.ensures.len, c.push_reserved-in-Some-take_left.ensures.len, ap length c.make_place.ensures.items, c.args.pairs.now.ok.0, c.make_place.new.items.ok.0, c.take_left-in-Both.new.pairs.ok.0, c.push_reserved.new.self.ok.0, c.push_reserved-in-Some-take_left.new.self.ok.0);
      handed_back = tt;
      both = tt;
      full = tt;
      unchanged = tt;
      room = record {
        not_lower = omega (arith, stays, c.make_place.ensures.not_lower);
        at_most = omega (arith, stays, c.make_place.ensures.at_most);
        had_place = λ h. stays ∙ c.make_place.ensures.had_place (omega (arith, h, c.args.pairs.now.ok.0));
        in_place = λ h. absurd (h (subst IsBoth (sym c.in-Both.is) tt));
      };
    }

pub returns-in-Some-take_left-clause-apart : goal.returns-in-Some-take_left-clause-apart
returns-in-Some-take_left-clause-apart g c =
    two_apart g.L.PartialEq.eq g.R.PartialEq.eq g.met.L.Eq.laws g.met.R.Eq.laws c.args.pairs.now.items c.take_left-in-Both.new.pairs.items c.args.left.now c.args.answer (left_over g c) c.requires.undoable c.push_reserved.new.self.items c.push_reserved-in-Some-take_left.new.self.items c.in-Both.first c.in-Both.second c.in-Some-take_left.ensures.apart c.push_reserved.ensures.items c.push_reserved-in-Some-take_left.ensures.items c.in-Both.is

pub returns-in-Some-take_left-2-clause-undoing : goal.returns-in-Some-take_left-2-clause-undoing
returns-in-Some-take_left-2-clause-undoing g c =
    let one = names_one c.args.answer c.in-Left.l c.in-Left.r c.in-Left.is in
    let e = c.in-Some-take_left-2.ensures in
    let stays = c.push_reserved-in-Some-take_left-2.ensures.capacity ∙ e.capacity in
    record {
      taken = e.removed;
      undone = one_back g.L.PartialEq.eq g.R.PartialEq.eq c.args.pairs.now.items c.take_left-in-Left.new.pairs.items c.push_reserved-in-Some-take_left-2.new.self.items c.args.left.now c.args.answer (c.in-Left.l, c.in-Left.r) e.without c.push_reserved-in-Some-take_left-2.ensures.items one.only one.is;
      count = omega (arith, e.shorter, one.one, c.push_reserved-in-Some-take_left-2.ensures.len, c.args.pairs.now.ok.0, c.take_left-in-Left.new.pairs.ok.0, c.push_reserved-in-Some-take_left-2.new.self.ok.0);
      handed_back = tt;
      both = tt;
      full = tt;
      unchanged = tt;
      room = room_stays _ _ _ stays;
    }

pub returns-in-Some-take_left-2-clause-apart : goal.returns-in-Some-take_left-2-clause-apart
returns-in-Some-take_left-2-clause-apart g c =
    let one = names_one c.args.answer c.in-Left.l c.in-Left.r c.in-Left.is in
    one_apart g.L.PartialEq.eq g.R.PartialEq.eq g.met.L.Eq.laws g.met.R.Eq.laws c.args.pairs.now.items c.take_left-in-Left.new.pairs.items c.args.left.now c.args.answer c.in-Some-take_left-2.ensures.without c.requires.undoable c.push_reserved-in-Some-take_left-2.new.self.items (c.in-Left.l, c.in-Left.r) c.in-Some-take_left-2.ensures.apart c.push_reserved-in-Some-take_left-2.ensures.items one.is

use Rattle.std.proofs.Common.{refl, sym, ◌∙◌, arith, true≢false, Contains}
use Rattle.bimap_base.proofs.Counts.{none_named}
use Rattle.bimap_base.proofs.Members.{lacking}
use Rattle.bimap_any.proofs.Removals.{removing_left}
use Rattle.bimap_any.proofs.Swapping.{swapped_with_itself, first_fits, second_fits, swapped}
use Rattle.bimap_any.proofs.Positions.{two_last}
use Rattle.bimap_any.proofs.swap.swap_partners.Goals as goal

pub returns-then-not-contains_left-clause-answer : goal.returns-then-not-contains_left-clause-answer
returns-then-not-contains_left-clause-answer g c =
    let lacks = lacking (Contains (g.B.Bijection.holding c.args.bimap.now).pairs) (λ (p : g.row.L.Denot × g.row.R.Denot). g.L.PartialEq.eq p.0 c.args.left.now) c.if-not-contains_left.ensures in
    record { swapped = tt; refused = lacks; unchanged = refl; equal = λ _. refl; count = refl; room = refl }

pub returns-then-not-contains_left-2-clause-answer : goal.returns-then-not-contains_left-2-clause-answer
returns-then-not-contains_left-2-clause-answer g c =
    let lacks = lacking (Contains (g.B.Bijection.holding c.args.bimap.now).pairs) (λ (p : g.row.L.Denot × g.row.R.Denot). g.L.PartialEq.eq p.0 c.args.other.now) c.if-not-contains_left-2.ensures in
    record { swapped = tt; refused = (c.if-not-contains_left.ensures.0 refl, lacks); unchanged = refl; equal = λ _. refl; count = refl; room = refl }

pub returns-then-eq-clause-answer : goal.returns-then-eq-clause-answer
returns-then-eq-clause-answer g c =
    let lefts = g.met.L.Eq.laws in
    let left = c.args.left.now in
    let other = c.args.other.now in
    let has = c.if-not-contains_left.ensures.0 refl in
    let equal = sym c.eq.ensures ∙ c.if-eq.true in
    let by_other = lefts.symm has.0.0 other ∙ sym (lefts.congr left other has.0.0 equal) ∙ lefts.symm left has.0.0 ∙ has.2 in
    record {
      swapped = swapped_with_itself g.L.PartialEq.eq g.R.PartialEq.eq lefts g.met.R.Eq.laws (g.B.Bijection.holding c.args.bimap.now).pairs has.0 left other (g.met.B.Bijection.apart c.args.bimap.now) has.1 has.2 by_other;
      refused = tt;
      unchanged = tt;
      equal = λ _. refl;
      count = refl;
      room = refl;
    }

pub returns-clause-answer : goal.returns-clause-answer
returns-clause-answer g c =
    let lefts = g.met.L.Eq.laws in
    let rights = g.met.R.Eq.laws in
    let old = (g.B.Bijection.holding c.args.bimap.now).pairs in
    let less = (g.B.Bijection.holding c.remove_by_left.new.self).pairs in
    let none = (g.B.Bijection.holding c.remove_by_left-2.new.self).pairs in
    let once = (g.B.Bijection.holding c.insert.new.self).pairs in
    let p = c.in-Some.first in
    let q = c.in-Some-remove_by_left.second in
    let apart = g.met.B.Bijection.apart c.args.bimap.now in
    let removed = rw c.in-Some.is at c.remove_by_left.ensures.answer.removed in
    let removed_other = rw c.in-Some-remove_by_left.is at c.remove_by_left-2.ensures.answer.removed in
    let first = removing_left g.L.PartialEq.eq g.R.PartialEq.eq lefts rights old p less apart c.args.left.now removed.0 removed.1 c.remove_by_left.ensures.answer.without in
    let second = removing_left g.L.PartialEq.eq g.R.PartialEq.eq lefts rights less q none (g.met.B.Bijection.apart c.remove_by_left.new.self) c.args.other.now removed_other.0 removed_other.1 c.remove_by_left-2.ensures.answer.without in
    let one = rw c.in-Ok-Ok.is-0 at c.insert.ensures.answer in
    let two = rw c.in-Ok-Ok.is-1 at c.insert-2.ensures.answer in
    let fits = first_fits g.L.PartialEq.eq g.R.PartialEq.eq lefts rights old less none once apart p q first second in
    let fits_too = second_fits g.L.PartialEq.eq g.R.PartialEq.eq lefts rights old less none once apart p q first second one.put in
    let named = none_named g.L.PartialEq.eq g.R.PartialEq.eq (Contains none) (q.0, p.1) c.in-Ok-Ok.field-0-0 fits one.answer in
    let named_too = none_named g.L.PartialEq.eq g.R.PartialEq.eq (Contains once) (p.0, q.1) c.in-Ok-Ok.field-0-1 fits_too two.answer in
    let shorter = rw c.in-Some.is at c.remove_by_left.ensures.answer.count in
    let shortest = rw c.in-Some-remove_by_left.is at c.remove_by_left-2.ensures.answer.count in
    let room_two = c.remove_by_left-2.ensures.answer.room ∙ c.remove_by_left.ensures.answer.room in
    let room_one = one.room.had_place (omega (arith, g.met.B.Bijection.fits c.args.bimap.now, shorter, shortest, room_two)) ∙ room_two in
    record {
      swapped = swapped g.L.PartialEq.eq g.R.PartialEq.eq lefts rights old less none once apart p q first second one.put (Contains (g.B.Bijection.holding c.insert-2.new.self).pairs) c.args.left.now c.args.other.now removed.1 removed_other.1 two.put;
      refused = tt;
      unchanged = tt;
      equal = λ e. absurd (true≢false (sym e ∙ sym c.eq.ensures ∙ c.if-eq.false));
      count = omega (arith, named, named_too, one.count, two.count, shorter, shortest);
      room = two.room.had_place (omega (arith, g.met.B.Bijection.fits c.args.bimap.now, shorter, shortest, named, one.count, room_one)) ∙ room_one;
    }

pub returns-clause-position : goal.returns-clause-position
returns-clause-position g c appends differ =
    let p = c.in-Some.first in
    let q = c.in-Some-remove_by_left.second in
    let shorter = rw c.in-Some.is at c.remove_by_left.ensures.answer.count in
    let shortest = rw c.in-Some-remove_by_left.is at c.remove_by_left-2.ensures.answer.count in
    let one = rw c.in-Ok-Ok.is-0 at c.insert.ensures.answer.count in
    let two = rw c.in-Ok-Ok.is-1 at c.insert-2.ensures.answer.count in
    let answer = returns-clause-answer g c in
    record {
      first = p;
      second = q;
      by_left = (rw c.in-Some.is at c.remove_by_left.ensures.answer.removed).1;
      by_other = (rw c.in-Some-remove_by_left.is at c.remove_by_left-2.ensures.answer.removed).1;
      less = (g.B.Bijection.holding c.remove_by_left.new.self).pairs;
      rest = (g.B.Bijection.holding c.remove_by_left-2.new.self).pairs;
      first_out = rw c.in-Some.is at c.remove_by_left.ensures.position appends;
      second_out = rw c.in-Some-remove_by_left.is at c.remove_by_left-2.ensures.position appends;
      last = two_last _ (q.0, p.1) (p.0, q.1) c.in-Ok-Ok.field-0-0 c.in-Ok-Ok.field-0-1 _ _ (omega (arith, answer.count, shorter, shortest, one, two)) (rw c.in-Ok-Ok.is-0 at c.insert.ensures.position appends) (rw c.in-Ok-Ok.is-1 at c.insert-2.ensures.position appends);
    }

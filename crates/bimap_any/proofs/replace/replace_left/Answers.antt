use Rattle.std.proofs.Common.{inl, inr, refl, arith, Contains}
use Rattle.bimap_base.proofs.Members.{lacking}
use Rattle.bimap_any.proofs.Removals.{removing_left}
use Rattle.bimap_any.proofs.Replacing.{none_shares_left, replaced, missing}
use Rattle.bimap_any.proofs.Positions.{stands_last}
use Rattle.bimap_any.proofs.replace.replace_left.Goals.{else-ne-via-then-ne+else-contains_left, else-ne-via-else-ne}
use Rattle.bimap_any.proofs.replace.replace_left.Goals as goal

pub unreachable-requires : goal.unreachable-requires
unreachable-requires g c = omega (arith, c.in-Some.ensures.answer.count, g.met.B.Bijection.fits c.args.bimap.now, c.in-Err.ensures.answer.full, c.remove_by_left.ensures.answer.room)

pub returns-clause-answer : goal.returns-clause-answer
returns-clause-answer g c =
    replaced (λ p. p.0) (λ p. p.1) (λ l r. (l, r)) g.L.PartialEq.eq g.L.PartialEq.eq g.R.PartialEq.eq g.met.L.Eq.laws g.met.R.Eq.laws g.met.L.Eq.laws (removing_left g.L.PartialEq.eq g.R.PartialEq.eq g.met.L.Eq.laws g.met.R.Eq.laws) (none_shares_left g.L.PartialEq.eq g.R.PartialEq.eq g.met.L.Eq.laws g.met.R.Eq.laws) _ _ _ (g.met.B.Bijection.apart c.args.bimap.now) (g.met.B.Bijection.fits c.args.bimap.now) _ c.args.from.now c.args.to (c.in-Some.left, c.in-Some.right) refl (rw c.in-Some.is at c.remove_by_left.ensures.answer.removed) c.remove_by_left.ensures.answer.without (rw c.in-Some.is at c.remove_by_left.ensures.answer.count) c.remove_by_left.ensures.answer.room
    (elim c.else-ne.branch [ else-ne-via-then-ne+else-contains_left w ↦ inl (lacking (Contains (g.B.Bijection.holding c.args.bimap.now).pairs) (λ (p : g.row.L.Denot × g.row.R.Denot). g.L.PartialEq.eq p.0 c.args.to) w.if-contains_left.ensures) | else-ne-via-else-ne w ↦ inr w.if-ne.ensures ]) (rw c.in-Ok.is at c.insert.ensures.answer)

pub returns-clause-position : goal.returns-clause-position
returns-clause-position g c appends =
    let answer = returns-clause-answer g c in
    let inserted = rw c.in-Ok.is at c.insert.ensures.answer.count in
    let removed = rw c.in-Some.is at c.remove_by_left.ensures.answer.count in
    record {
      other = c.in-Some.right;
      last = record {
        rest = (g.B.Bijection.holding c.remove_by_left.new.self).pairs;
        out = rw c.in-Some.is at c.remove_by_left.ensures.position appends;
        last = stands_last _ (c.args.to, c.in-Some.right) c.in-Ok.field-0 _ (omega (arith, answer.count, inserted, removed)) (rw c.in-Ok.is at c.insert.ensures.position appends);
      };
    }

pub returns-then-not-contains_left-clause-answer : goal.returns-then-not-contains_left-clause-answer
returns-then-not-contains_left-clause-answer g c = missing (λ p. p.0) (λ p. p.1) (λ l r. (l, r)) g.L.PartialEq.eq _ c.args.from.now c.args.to (lacking (Contains (g.B.Bijection.holding c.args.bimap.now).pairs) (λ (p : g.row.L.Denot × g.row.R.Denot). g.L.PartialEq.eq p.0 c.args.from.now) c.if-not-contains_left.ensures)

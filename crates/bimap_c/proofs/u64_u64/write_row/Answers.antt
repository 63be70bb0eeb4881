use Rattle.std.proofs.Common.{refl, sym, subst, arith, length-set}
use Rattle.std.proofs.lemmas.List.{length_push}
use Rattle.std.proofs.lemmas.Iterator.Consumers.{YieldsList-end}
use Rattle.std.specs.Iterator.{AlwaysYields}
use Rattle.std.specs.Map.Iter.{deref_pair}
use Rattle.bimap_c.proofs.Rows.{one_written}
use Rattle.bimap_c.proofs.u64_u64.write_row.Goals as goal

pub returns-then-filled-row : goal.returns-then-filled-row
returns-then-filled-row g c pairs gives =
    let i = c.loop-left.invariant in
    let more = one_written g.W.Iterator.next_gives _ _ _ pairs _ (c.in-Some.left, c.in-Some.right) c.args.row.now _ c.loop-left.filled (subst (λ w. AlwaysYields g.W.Iterator.next_gives deref_pair w pairs) (sym c.into_iter-left-iterator.ensures.into_iter_gives) gives) c.loop-left.yielded_by c.in-Some.ensures.steps i.count i.room (i.written pairs gives) in
    (grind (arith, length-set, more.0, c.if-filled-row.true, i.room, c.loop-left.auto.row), more.1)

pub loop-left-preserved : goal.loop-left-preserved
loop-left-preserved g c =
    let i = c.loop-left.invariant in
    let goes = c.in-Some.ensures.goes.on i.ends in
    record {
      can = goes.0;
      ends = goes.1;
      count = omega (arith, i.count, length_push c.loop-left.yielded (c.in-Some.left, c.in-Some.right));
      room = grind (arith, length-set, c.if-filled-row.false, i.room, c.loop-left.auto.row);
      written = λ pairs gives. (one_written g.W.Iterator.next_gives _ _ _ pairs _ (c.in-Some.left, c.in-Some.right) c.args.row.now _ c.loop-left.filled (subst (λ w. AlwaysYields g.W.Iterator.next_gives deref_pair w pairs) (sym c.into_iter-left-iterator.ensures.into_iter_gives) gives) c.loop-left.yielded_by c.in-Some.ensures.steps i.count i.room (i.written pairs gives)).1;
    }

pub returns : goal.returns
returns g c pairs gives =
    let i = c.loop-left.invariant in
    let all = YieldsList-end {steps = g.W.Iterator.next_gives} {v = deref_pair} (record { runs = subst (λ w. AlwaysYields g.W.Iterator.next_gives deref_pair w pairs) (sym c.into_iter-left-iterator.ensures.into_iter_gives) gives }) c.loop-left.yielded c.loop-left.left-iterator c.loop-left.yielded_by _ _ refl c.in-None.ensures.steps in
    (omega (arith, all.1, i.count, i.room), i.written pairs gives)

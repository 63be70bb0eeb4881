use Rattle.std.proofs.Common.{arith, sym, subst, ◌∙◌}
use Rattle.bimap_list.proofs.Ranking.{IsRead, all_read, past, read_more}
use Rattle.bimap_list.proofs.linked_list.LinkedList.to_vec.Goals as goal
use Rattle.bimap_list.proofs.linked_list.LinkedList.to_vec.Goals.{else-loop-test, then-loop-test+in_default}

pub loop-preserved : goal.loop-preserved
loop-preserved c =
    read_more c.args.self.now.places c.loop.counter c.loop.places.items c.push.new.self.items c.in-Some.place c.after-next.result
    (subst (IsRead c.args.self.now.places c.loop.counter c.loop.places.items) c.in-Some.is c.loop.invariant) (grind arith) c.after-next.ensures

pub returns-clause-items : goal.returns-clause-items
returns-clause-items c =
    elim c.loop-test.branch [
      | else-loop-test w ↦ all_read c.args.self.now.places c.loop.counter c.loop.places.items c.loop.next c.loop.invariant (omega (arith, w.loop-test.false, c.cells-end.ensures.fits, c.cells-end.ensures.cells))
      | then-loop-test+in_default w ↦ all_read c.args.self.now.places (c.loop.counter) c.loop.places.items c.loop.next c.loop.invariant (past c.args.self.now.places c.loop.counter (sym c.loop.invariant.comes ∙ w.in_default.is))
    ]

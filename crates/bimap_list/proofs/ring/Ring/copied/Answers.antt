use Rattle.std.proofs.Common.{arith, sym, subst, ◌∙◌}
use Rattle.std.specs.List.{Contains}
use Rattle.bimap_list.proofs.Links.{contains_at}
use Rattle.bimap_list.proofs.Ranking.{IsRead, all_read, earlier, past, read_more}
use Rattle.bimap_list.proofs.ring.Ring.copied.Goals as goal
use Rattle.bimap_list.proofs.ring.Ring.copied.Goals.{else-loop-test, then-loop-test+in_default}

pub push_back-requires-clause-cell : goal.push_back-requires-clause-cell
push_back-requires-clause-cell g c =
    let here = sym c.loop.invariant.read.comes ∙ c.in-Some.is in
    let less = c.cells-end.ensures.below c.in-Some.place (contains_at c.args.self.now.places c.loop.counter c.in-Some.place here) in
    omega (arith, less, c.requires.above, c.loop.invariant.cells)

pub push_back-requires-clause-absent : goal.push_back-requires-clause-absent
push_back-requires-clause-absent g c has =
    let here = sym c.loop.invariant.read.comes ∙ c.in-Some.is in
    earlier c.args.self.now.places c.loop.counter c.in-Some.place here c.cells-end.ensures.distinct (subst (λ places. Contains places c.in-Some.place) c.loop.invariant.read.read_so_far has)

pub loop-preserved : goal.loop-preserved
loop-preserved g c =
    record {
      read = read_more c.args.self.now.places c.loop.counter c.loop.copy.places c.push_back.new.self.places c.in-Some.place c.after-next.result
          (subst (IsRead c.args.self.now.places c.loop.counter c.loop.copy.places) c.in-Some.is c.loop.invariant.read) c.push_back.ensures.places c.after-next.ensures;
      cells = c.push_back.ensures.cells ∙ c.loop.invariant.cells;
    }

pub returns-clause-places : goal.returns-clause-places
returns-clause-places g c =
    elim c.loop-test.branch [
      | else-loop-test w ↦ all_read c.args.self.now.places c.loop.counter c.loop.copy.places c.loop.next c.loop.invariant.read (omega (arith, w.loop-test.false, c.cells-end.ensures.fits, c.cells-end.ensures.cells))
      | then-loop-test+in_default w ↦ all_read c.args.self.now.places c.loop.counter c.loop.copy.places c.loop.next c.loop.invariant.read (past c.args.self.now.places c.loop.counter (sym c.loop.invariant.read.comes ∙ w.in_default.is))
    ]

use Rattle.std.proofs.Common.{sym, ◌∙◌}
use Rattle.test_support.proofs.Removal.{cleared_by, struck_left, struck_right, struck_both}
use Rattle.test_support.proofs.plain.changes.strike.Goals as goal

pub returns-in-None-Some-clause-cleared : goal.returns-in-None-Some-clause-cleared
returns-in-None-Some-clause-cleared g c = cleared_by g.L.PartialEq.eq g.R.PartialEq.eq c.args.pairs.now.items c.take_left-by_left.new.pairs.items c.take_right-by_right.new.pairs.items c.args.left.now c.args.right.now c.take_left-by_left.ensures.without c.take_right-by_right.ensures.without

pub returns-in-None-Some-clause-answer : goal.returns-in-None-Some-clause-answer
returns-in-None-Some-clause-answer g c =
    let m = rw c.in-None-Some.is-0 at c.take_left-by_left.ensures.removed in let n = rw c.in-None-Some.is-1 at c.take_right-by_right.ensures.removed in (struck_right g.L.PartialEq.eq g.R.PartialEq.eq g.met.L.Eq.laws g.met.R.Eq.laws c.args.pairs.now.items c.take_left-by_left.new.pairs.items c.args.left.now c.args.right.now c.requires c.take_left-by_left.ensures.without (c.in-None-Some.l, c.in-None-Some.r) n.0 n.1 m, m (c.in-None-Some.l, c.in-None-Some.r) ((c.take_left-by_left.ensures.without (c.in-None-Some.l, c.in-None-Some.r)).0 n.0).0, n.1)

pub returns-then-eq-clause-cleared : goal.returns-then-eq-clause-cleared
returns-then-eq-clause-cleared g c = cleared_by g.L.PartialEq.eq g.R.PartialEq.eq c.args.pairs.now.items c.take_left-by_left.new.pairs.items c.take_right-by_right.new.pairs.items c.args.left.now c.args.right.now c.take_left-by_left.ensures.without c.take_right-by_right.ensures.without

pub returns-then-eq-clause-answer : goal.returns-then-eq-clause-answer
returns-then-eq-clause-answer g c =
    let m = rw c.in-Some-None.is-0 at c.take_left-by_left.ensures.removed in let n = rw c.in-Some-None.is-1 at c.take_right-by_right.ensures.removed in (struck_left g.L.PartialEq.eq g.R.PartialEq.eq g.met.L.Eq.laws g.met.R.Eq.laws c.args.pairs.now.items c.take_left-by_left.new.pairs.items c.args.left.now c.args.right.now c.requires c.take_left-by_left.ensures.without (c.in-Some-None.l, c.in-Some-None.r) m.0 m.1 n, m.1, sym c.eq.ensures ∙ c.if-eq.true)

pub returns-else-eq-clause-cleared : goal.returns-else-eq-clause-cleared
returns-else-eq-clause-cleared g c = cleared_by g.L.PartialEq.eq g.R.PartialEq.eq c.args.pairs.now.items c.take_left-by_left.new.pairs.items c.take_right-by_right.new.pairs.items c.args.left.now c.args.right.now c.take_left-by_left.ensures.without c.take_right-by_right.ensures.without

pub returns-else-eq-clause-answer : goal.returns-else-eq-clause-answer
returns-else-eq-clause-answer g c =
    let m = rw c.in-Some-None.is-0 at c.take_left-by_left.ensures.removed in let n = rw c.in-Some-None.is-1 at c.take_right-by_right.ensures.removed in (struck_left g.L.PartialEq.eq g.R.PartialEq.eq g.met.L.Eq.laws g.met.R.Eq.laws c.args.pairs.now.items c.take_left-by_left.new.pairs.items c.args.left.now c.args.right.now c.requires c.take_left-by_left.ensures.without (c.in-Some-None.l, c.in-Some-None.r) m.0 m.1 n, m.1, sym c.eq.ensures ∙ c.if-eq.false)

pub returns-in-Some-Some-clause-cleared : goal.returns-in-Some-Some-clause-cleared
returns-in-Some-Some-clause-cleared g c = cleared_by g.L.PartialEq.eq g.R.PartialEq.eq c.args.pairs.now.items c.take_left-by_left.new.pairs.items c.take_right-by_right.new.pairs.items c.args.left.now c.args.right.now c.take_left-by_left.ensures.without c.take_right-by_right.ensures.without

pub returns-in-Some-Some-clause-answer : goal.returns-in-Some-Some-clause-answer
returns-in-Some-Some-clause-answer g c =
    let m = rw c.in-Some-Some.is-0 at c.take_left-by_left.ensures.removed in let n = rw c.in-Some-Some.is-1 at c.take_right-by_right.ensures.removed in struck_both g.L.PartialEq.eq g.R.PartialEq.eq g.met.L.Eq.laws g.met.R.Eq.laws c.args.pairs.now.items c.take_left-by_left.new.pairs.items c.args.left.now c.args.right.now c.requires c.take_left-by_left.ensures.without c.in-Some-Some.p c.in-Some-Some.q m.0 m.1 n.0 n.1

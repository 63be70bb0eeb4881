use Rattle.std.proofs.Common.{rules, subst, arith}
use Rattle.test_support.proofs.Keeping.{passed, refused, ended_apart, tail, order_now, pair_at}
use Rattle.bimap_base.specs.Kept.{TestedAt}
use Rattle.test_support.proofs.plain.changes.keep.Goals as goal

pub ask-requires : goal.ask-requires
ask-requires g c l r x y =
    c.requires.may_test.at c.loop-kept.invariant.so_far.tested c.loop-kept.invariant.so_far.answers c.loop-kept.f l r (tail g.F.FnMut c.args.f c.loop-kept.f c.loop-kept.f c.args.pairs.now.items c.loop-kept.pairs.items c.loop-kept.kept c.loop-kept.invariant.so_far (omega (arith, c.loop-kept.pairs.ok.0)) c.index.result.now c.index.ensures)
    (order_now g.F.FnMut c.args.f c.loop-kept.f c.loop-kept.f c.args.pairs.now.items c.loop-kept.pairs.items c.loop-kept.kept c.loop-kept.invariant.so_far (omega (arith, c.loop-kept.pairs.ok.0)) c.index.result.now c.index.ensures (l.now, r.now) (pair_at c.index.result.now l.now r.now x y))
    c.loop-kept.invariant.so_far.calls

pub loop-kept-preserved-then-ask : goal.loop-kept-preserved-then-ask
loop-kept-preserved-then-ask g c = record {
  so_far = passed g.F.FnMut c.args.f c.loop-kept.f c.ask.new.f c.args.pairs.now.items c.loop-kept.pairs.items c.loop-kept.kept c.loop-kept.invariant.so_far (omega (arith, c.loop-kept.pairs.ok.0)) c.index.result.now c.index.ensures (subst (λ b. TestedAt g.F.FnMut c.loop-kept.f c.index.result.now b c.ask.new.f) c.if-ask.true c.ask.ensures);
  capacity = search rules;
}

pub loop-kept-preserved : goal.loop-kept-preserved
loop-kept-preserved g c = record {
  so_far = refused g.F.FnMut c.args.f c.loop-kept.f c.ask.new.f c.args.pairs.now.items c.loop-kept.pairs.items c.loop-kept.kept c.loop-kept.invariant.so_far (omega (arith, c.loop-kept.pairs.ok.0)) c.index.result.now c.index.ensures c.remove.new.self.items c.remove.ensures.items (subst (λ b. TestedAt g.F.FnMut c.loop-kept.f c.index.result.now b c.ask.new.f) c.if-ask.false c.ask.ensures);
  capacity = search rules;
}

pub returns-clause-apart : goal.returns-clause-apart
returns-clause-apart g c = ended_apart g.F.FnMut c.args.f c.loop-kept.f c.args.pairs.now.items c.loop-kept.pairs.items c.loop-kept.kept c.loop-kept.invariant.so_far (omega (arith, c.loop-kept.pairs.ok.0)) g.L.PartialEq.eq g.R.PartialEq.eq c.requires.apart

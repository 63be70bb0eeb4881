use Rattle.std.proofs.Common.{refl, arith}
use Rattle.test_support.proofs.Visiting.{may, goes_on, ended}
use Rattle.test_support.proofs.plain.scan.visit.Goals as goal

pub loop-i-init : goal.loop-i-init
loop-i-init g c = refl

pub tell-requires : goal.tell-requires
tell-requires g c =
    may g.F.FnMut c.args.f c.loop-i.f c.args.pairs.now c.loop-i.i c.loop-i.invariant (omega (arith, c.loop-i-test.true)) c.index-pairs-i.result c.index-pairs-i.is c.requires

pub loop-i-preserved : goal.loop-i-preserved
loop-i-preserved g c =
    goes_on g.F.FnMut c.args.f c.loop-i.f c.args.pairs.now c.loop-i.i c.loop-i.invariant (omega (arith, c.loop-i-test.true)) c.index-pairs-i.result c.index-pairs-i.is c.tell.new.f c.tell.ensures

pub returns : goal.returns
returns g c = ended g.F.FnMut c.args.f c.loop-i.f c.args.pairs.now c.loop-i.i c.loop-i.invariant (omega arith)

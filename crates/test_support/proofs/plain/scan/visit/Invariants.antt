use Rattle.std.proofs.Common.{take}
use Rattle.bimap_any.specs.Visited.{VisitsInOrder}
use Rattle.test_support.proofs.plain.scan.visit.Given as goal

abbrev pub invariant-loop-i : goal.invariant-loop-i
invariant-loop-i g l = VisitsInOrder g.F.FnMut l.fn.f (take l.i l.fn.pairs) l.f

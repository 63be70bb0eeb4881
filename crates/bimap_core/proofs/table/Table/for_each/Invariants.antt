use Rattle.bimap_core.proofs.Visiting.{IsVisitedBelow}
use Rattle.bimap_core.proofs.table.Table.for_each.Given as goal

abbrev pub invariant-loop-place : goal.invariant-loop-place
invariant-loop-place g l = IsVisitedBelow g.F.FnMut l.fn.f l.f l.self.pairs l.place

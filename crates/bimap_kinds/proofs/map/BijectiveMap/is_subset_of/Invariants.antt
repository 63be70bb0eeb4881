use Rattle.bimap_any.proofs.Meeting.{IsMetUpTo}
use Rattle.bimap_kinds.specs.Held.{holding}
use Rattle.bimap_kinds.proofs.map.BijectiveMap.is_subset_of.Given as goal

abbrev pub invariant-loop-left : goal.invariant-loop-left
invariant-loop-left g l = IsMetUpTo g.L.PartialEq.eq g.R.PartialEq.eq (holding l.self).pairs l.left-iterator (g.B.Bijection.holding l.other).pairs

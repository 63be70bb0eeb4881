use Rattle.std.proofs.Common.{length}
use Rattle.bimap_any.proofs.Meeting.{IsMetUpTo}
use Rattle.bimap_kinds.specs.Held.{holding}
use Rattle.bimap_kinds.proofs.map.BijectiveMap.has_equal_pairs.Given as goal

abbrev pub invariant-loop-left : goal.invariant-loop-left
invariant-loop-left g l = IsMetUpTo g.L.PartialEq.eq g.R.PartialEq.eq (holding l.self).pairs l.walk (holding l.other).pairs

abbrev pub decreases-loop-left : goal.decreases-loop-left
decreases-loop-left g l = length l.walk

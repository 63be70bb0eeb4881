use Rattle.std.proofs.Common.{◌≡◌, ◌-◌, vec_len}
use Rattle.std.specs.Vec.{vec_capacity}
use Rattle.test_support.proofs.Keeping.{IsTestedUpTo}
use Rattle.test_support.proofs.plain.changes.keep.Given as goal

abbrev pub invariant-loop-kept : goal.invariant-loop-kept
invariant-loop-kept g l = record {
  so_far : IsTestedUpTo g.F.FnMut l.fn.f l.f l.fn.pairs.items l.pairs.items l.kept;
  capacity : vec_capacity l.pairs ≡ vec_capacity l.fn.pairs;
}

abbrev pub decreases-loop-kept : goal.decreases-loop-kept
decreases-loop-kept g l = vec_len l.pairs - l.kept

use Rattle.std.proofs.Common.{◌≡◌, ◌++◌}
use Rattle.bimap_kinds.specs.Held.{holding}
use Rattle.test_properties.proofs.tests.callers.taken_by_loop.Given as goal

abbrev pub invariant-loop-pair : goal.invariant-loop-pair
invariant-loop-pair l = l.pairs.items ++ l.pair-iterator ≡ (holding l.fn.bimap).pairs

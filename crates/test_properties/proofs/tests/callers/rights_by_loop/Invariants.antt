use Rattle.std.proofs.Common.{◌≡◌, ◌++◌}
use Rattle.std.specs.Map.{values_of}
use Rattle.bimap_kinds.specs.Held.{holding}
use Rattle.test_properties.proofs.tests.callers.rights_by_loop.Given as goal

abbrev pub invariant-loop-right : goal.invariant-loop-right
invariant-loop-right l = l.rights.items ++ values_of l.right-iterator ≡ values_of (holding l.fn.bimap).pairs

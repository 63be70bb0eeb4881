use Rattle.std.specs.Prelude.{List}
use Rattle.bimap.specs.Trail.{Leads}
use Rattle.test_properties.proofs.tests.undo_runs.refusals.Given as goal

-- the entries that are left led to what is held
abbrev pub invariant-loop-refusals : goal.invariant-loop-refusals
invariant-loop-refusals g l = (first : List _) × Leads g.L.PartialEq.eq g.R.PartialEq.eq first l.entries.items (g.B.Bijection.holding l.bimap).pairs

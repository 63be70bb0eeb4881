use Rattle.std.proofs.Common.{◌≡◌, length}
use Rattle.std.specs.Vec.{vec_capacity}
use Rattle.bimap.specs.Trail.{Leads}
use Rattle.test_support.proofs.trails.insert_all.Given as goal

abbrev pub invariant-loop-left : goal.invariant-loop-left
invariant-loop-left g l = record {
  long : length l.entries.items ≡ l.left-index;
  capacity : vec_capacity l.entries ≡ length l.pairs;
  leads : Leads g.L.PartialEq.eq g.R.PartialEq.eq (g.B.Bijection.holding l.fn.bimap).pairs l.entries.items (g.B.Bijection.holding l.bimap).pairs;
}

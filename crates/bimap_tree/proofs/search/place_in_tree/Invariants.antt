use Rattle.std.proofs.Common.{◌≡◌}
use Rattle.bimap_tree.specs.IndexView.{height_at}
use Rattle.bimap_tree.proofs.Descents.{Costs, Leads}
use Rattle.bimap_tree.proofs.search.place_in_tree.Given as goal

abbrev pub invariant-loop-root : goal.invariant-loop-root
invariant-loop-root g l =
    record {
      leads : Leads l.cells l.fn.root l.fn.rank l.root l.rank;
      compared : g.M.Meter.comparisons l.meter ≡ g.M.Meter.comparisons l.initial.meter;
      touched : Costs l.cells l.fn.root 2 (g.M.Meter.touches l.initial.meter) l.root (g.M.Meter.touches l.meter);
    }

abbrev pub decreases-loop-root : goal.decreases-loop-root
decreases-loop-root g l = height_at l.cells l.root

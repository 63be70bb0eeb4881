use Rattle.std.proofs.Common.{Some}
use Rattle.std.specs.Prelude.{IsSome}
use Rattle.bimap_base.specs.Keyed.{standing}
use Rattle.bimap_tree.specs.IndexView.{height_at}
use Rattle.bimap_tree.proofs.Descents.{Costs, Finds}
use Rattle.bimap_tree.proofs.search.find_in_tree.Given as goal

abbrev pub invariant-loop-root : goal.invariant-loop-root
invariant-loop-root g l =
    record {
      finds : Finds l.cells (λ p. IsSome (g.K.Keys.key_at l.keys p)) (λ p. standing g.Q.Sought.order (g.K.Keys.key_at l.keys p) (Some l.query)) l.fn.root l.root;
      compared : Costs l.cells l.fn.root 1 (g.M.Meter.comparisons l.initial.meter) l.root (g.M.Meter.comparisons l.meter);
      touched : Costs l.cells l.fn.root 1 (g.M.Meter.touches l.initial.meter) l.root (g.M.Meter.touches l.meter);
    }

abbrev pub decreases-loop-root : goal.decreases-loop-root
decreases-loop-root g l = height_at l.cells l.root

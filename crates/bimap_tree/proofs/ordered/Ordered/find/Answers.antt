use Rattle.std.proofs.Common.{ap}
use Rattle.bimap_base.specs.NodesInCells.{nodes_in}
use Rattle.bimap_tree.proofs.Found.{found_in, none_in}
use Rattle.bimap_tree.proofs.Whole.{can_seek, finds, cost_within}
use Rattle.bimap_tree.proofs.ordered.Ordered.find.Goals as goal

pub find_in_tree-requires : goal.find_in_tree-requires
find_in_tree-requires g c = rw (← ap nodes_in c.in-Narrow.is) (_, can_seek _ _ _ _ c.self.invariant.0 c.self.view_is _ _ _ g.met.Q.Sought.follows c.requires _)

pub find_in_tree-requires-in-Wide : goal.find_in_tree-requires-in-Wide
find_in_tree-requires-in-Wide g c = rw (← ap nodes_in c.in-Wide.is) (_, can_seek _ _ _ _ c.self.invariant.0 c.self.view_is _ _ _ g.met.Q.Sought.follows c.requires _)

pub returns-in-Narrow : goal.returns-in-Narrow
returns-in-Narrow g c =
    let w = rw (ap nodes_in c.in-Narrow.is) at c.self.invariant.0 in
    let e = rw (ap nodes_in c.in-Narrow.is) at c.self.view_is in
    let first = finds _ _ _ _ w e _ _ _ g.met.Q.Sought.follows c.requires _ _ c.find_in_tree.ensures.found in
    record {
      found = found_in _ _ _ first;
      none = none_in _ _ _ first;
      comparisons = cost_within _ _ _ _ w e _ _ c.find_in_tree.ensures.comparisons;
      touches = cost_within _ _ _ _ w e _ _ c.find_in_tree.ensures.touches;
    }

pub returns-in-Wide : goal.returns-in-Wide
returns-in-Wide g c =
    let w = rw (ap nodes_in c.in-Wide.is) at c.self.invariant.0 in
    let e = rw (ap nodes_in c.in-Wide.is) at c.self.view_is in
    let first = finds _ _ _ _ w e _ _ _ g.met.Q.Sought.follows c.requires _ _ c.find_in_tree-in-Wide.ensures.found in
    record {
      found = found_in _ _ _ first;
      none = none_in _ _ _ first;
      comparisons = cost_within _ _ _ _ w e _ _ c.find_in_tree-in-Wide.ensures.comparisons;
      touches = cost_within _ _ _ _ w e _ _ c.find_in_tree-in-Wide.ensures.touches;
    }

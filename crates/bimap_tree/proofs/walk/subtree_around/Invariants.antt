use Rattle.std.proofs.Common.{◌≡◌, ◌+◌, ◌*◌, ◌≤◌, ◌<◌}
use Rattle.bimap_tree.specs.RankedSubtree.{IsRankedSubtree}
use Rattle.bimap_tree.specs.Tree.{Tree, Stands, IsBalanced, height, reading, size}
use Rattle.bimap_tree.proofs.walk.subtree_around.Given as goal

abbrev pub invariant-loop-subtree : goal.invariant-loop-subtree
invariant-loop-subtree g l = record {
  parts : (t : Tree) → Stands l.cells l.fn.root t → IsBalanced t → l.rank < size t → (s : Tree) × IsRankedSubtree l.cells (reading t) l.rank l.subtree s × (g.M.Meter.touches l.meter + 2 * height s ≤ g.M.Meter.touches l.fn.meter + 2 * height t + 1);
  compared : g.M.Meter.comparisons l.meter ≡ g.M.Meter.comparisons l.fn.meter;
}

abbrev pub decreases-loop-subtree : goal.decreases-loop-subtree
decreases-loop-subtree g l = l.subtree.node.height

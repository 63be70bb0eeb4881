use Rattle.std.proofs.Common.{ap}
use Rattle.bimap_base.specs.NodesInCells.{nodes_in}
use Rattle.bimap_tree.proofs.by_width.take_at.Goals as goal

pub returns-in-Narrow-clause-tree : goal.returns-in-Narrow-clause-tree
returns-in-Narrow-clause-tree g c = rw (ap nodes_in c.in-Narrow.is) c.take_at.ensures.tree

pub returns-in-Wide-clause-tree : goal.returns-in-Wide-clause-tree
returns-in-Wide-clause-tree g c = rw (ap nodes_in c.in-Wide.is) c.take_at-in-Wide.ensures.tree

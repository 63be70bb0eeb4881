use Rattle.std.proofs.Common.{ap}
use Rattle.bimap_base.specs.NodesInCells.{nodes_in}
use Rattle.bimap_tree.proofs.by_width.finish_in_tree.Goals as goal

pub returns-in-Narrow-clause-follows : goal.returns-in-Narrow-clause-follows
returns-in-Narrow-clause-follows g c = rw (ap nodes_in c.in-Narrow.is) c.finish_in_tree.ensures.follows

pub returns-in-Wide-clause-follows : goal.returns-in-Wide-clause-follows
returns-in-Wide-clause-follows g c = rw (ap nodes_in c.in-Wide.is) c.finish_in_tree-in-Wide.ensures.follows

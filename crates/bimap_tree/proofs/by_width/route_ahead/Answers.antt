use Rattle.std.proofs.Common.{ap}
use Rattle.bimap_base.specs.NodesInCells.{nodes_in}
use Rattle.bimap_tree.specs.Path.{top}
use Rattle.bimap_tree.proofs.by_width.route_ahead.Goals as goal

pub returns-in-Narrow-clause-found : goal.returns-in-Narrow-clause-found
returns-in-Narrow-clause-found g c = rw (ap nodes_in c.in-Narrow.is) (c.route_in_tree.ensures.found top)

pub returns-in-Narrow-clause-follows : goal.returns-in-Narrow-clause-follows
returns-in-Narrow-clause-follows g c = rw (ap nodes_in c.in-Narrow.is) (c.route_in_tree.ensures.follows top)

pub returns-in-Wide-clause-found : goal.returns-in-Wide-clause-found
returns-in-Wide-clause-found g c = rw (ap nodes_in c.in-Wide.is) (c.route_in_tree-in-Wide.ensures.found top)

pub returns-in-Wide-clause-follows : goal.returns-in-Wide-clause-follows
returns-in-Wide-clause-follows g c = rw (ap nodes_in c.in-Wide.is) (c.route_in_tree-in-Wide.ensures.follows top)

use Rattle.std.proofs.Common.{ap}
use Rattle.bimap_base.specs.NodesInCells.{nodes_in}
use Rattle.bimap_tree.proofs.by_width.step_in_tree.Goals as goal

pub returns-in-Narrow-clause-goes : goal.returns-in-Narrow-clause-goes
returns-in-Narrow-clause-goes g c = rw (ap nodes_in c.in-Narrow.is) c.step_in_tree.ensures.goes

pub returns-in-Wide-clause-goes : goal.returns-in-Wide-clause-goes
returns-in-Wide-clause-goes g c = rw (ap nodes_in c.in-Wide.is) c.step_in_tree-in-Wide.ensures.goes

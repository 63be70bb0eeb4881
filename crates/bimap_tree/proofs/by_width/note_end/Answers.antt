use Rattle.std.proofs.Common.{ap}
use Rattle.bimap_base.specs.NodesInCells.{nodes_in}
use Rattle.bimap_tree.proofs.by_width.note_end.Goals as goal

pub returns-in-Narrow-clause-end : goal.returns-in-Narrow-clause-end
returns-in-Narrow-clause-end g c = rw (ap nodes_in c.in-Narrow.is) c.note_end.ensures.end

pub returns-in-Wide-clause-end : goal.returns-in-Wide-clause-end
returns-in-Wide-clause-end g c = rw (ap nodes_in c.in-Wide.is) c.note_end-in-Wide.ensures.end

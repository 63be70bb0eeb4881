use Rattle.bimap_base.specs.NodesInCells.{nodes_in}
use Rattle.bimap_tree.specs.IndexView.{tree_in}
use Rattle.bimap_tree.proofs.Distinct.{distinct_reading}
use Rattle.bimap_tree.proofs.Whole.{length_is, shown_index, height_within, listed_within}
use Rattle.bimap_tree.proofs.ordered.Ordered.len.Goals as goal

pub returns-clause-len : goal.returns-clause-len
returns-clause-len c = length_is _ _ _ _ c.self.invariant.0 c.self.view_is

pub returns-clause-balanced : goal.returns-clause-balanced
returns-clause-balanced c = (_, shown_index _ _ _ _ c.self.invariant.0 c.self.view_is, height_within _ _ _ _ c.self.invariant.0 c.self.view_is)

pub returns-clause-distinct : goal.returns-clause-distinct
returns-clause-distinct c = rw (← c.self.view_is) (distinct_reading (tree_in (nodes_in c.self.inside.cells) c.self.inside.root) c.self.invariant.0.index.distinct)

pub returns-clause-cells : goal.returns-clause-cells
returns-clause-cells c = listed_within _ _ _ _ c.self.invariant.0 c.self.view_is

use Rattle.std.proofs.Common.{ap, refl, None, lit<}
use Rattle.bimap_base.specs.NodesInCells.{nodes_in}
use Rattle.bimap_tree.specs.Tree.{leaf, reading}
use Rattle.bimap_tree.proofs.IndexView.{whole_of, no_index, tree_in-shown}
use Rattle.bimap_tree.proofs.ordered.Ordered.new.Goals as goal

pub invariant_of-result : goal.invariant_of-result
invariant_of-result c = (whole_of _ None 0 leaf (no_index _) refl (lit< tt), c.new-2.ensures _)

pub returns-clause-places : goal.returns-clause-places
returns-clause-places c = ap reading (tree_in-shown (nodes_in c.new.result) None leaf (no_index (nodes_in c.new.result)).tree)

use Rattle.std.proofs.Common.{ap, refl, None, lit<}
use Rattle.bimap_base.specs.NodesInCells.{nodes_in}
use Rattle.bimap_tree.specs.Tree.{leaf, reading}
use Rattle.bimap_tree.proofs.IndexView.{whole_of, no_index, tree_in-shown}
use Rattle.bimap_tree.proofs.ordered.Ordered.clear.Goals as goal

pub invariant_of-self : goal.invariant_of-self
invariant_of-self c = (whole_of _ None 0 leaf (no_index _) refl (lit< tt), c.let_go.ensures _)

pub returns-clause-places : goal.returns-clause-places
returns-clause-places c = ap reading (tree_in-shown (nodes_in c.self.inside.cells) None leaf (no_index (nodes_in c.self.inside.cells)).tree)

use Rattle.std.proofs.Common.{arith, subst}
use Rattle.bimap_base.specs.NodesInCells.{nodes_in}
use Rattle.bimap_tree.specs.Filled.{IsRow}
use Rattle.bimap_tree.specs.IndexView.{tree_in}
use Rattle.bimap_tree.proofs.Whole.{places_are, height_within, rank_within}
use Rattle.bimap_tree.proofs.ordered.Ordered.places_around.Goals as goal

pub fill_around-requires-clause-tree : goal.fill_around-requires-clause-tree
fill_around-requires-clause-tree g c =
    let few = rank_within _ _ _ _ c.self.invariant.0 c.self.view_is _ c.requires.rank in
    (tree_in (nodes_in c.self.inside.cells) c.self.inside.root, c.self.invariant.0.index.tree, c.self.invariant.0.index.balanced, few, omega (arith, c.self.invariant.0.counted, c.self.invariant.0.few))

pub returns-clause-row : goal.returns-clause-row
returns-clause-row g c =
    let few = rank_within _ _ _ _ c.self.invariant.0 c.self.view_is _ c.requires.rank in
    subst (λ places. IsRow places c.args.rank c.fill_around.new.buffer c.fill_around.result.0 c.fill_around.result.1) (places_are _ _ _ _ c.self.invariant.0 c.self.view_is) (c.fill_around.ensures.row _ c.self.invariant.0.index.tree c.self.invariant.0.index.balanced few)

pub returns-clause-touches : goal.returns-clause-touches
returns-clause-touches g c =
    let few = rank_within _ _ _ _ c.self.invariant.0 c.self.view_is _ c.requires.rank in
    omega (arith, c.fill_around.ensures.touches _ c.self.invariant.0.index.tree c.self.invariant.0.index.balanced few, height_within _ _ _ _ c.self.invariant.0 c.self.view_is)

use Rattle.std.proofs.Common.{arith, ap, ◌∙◌, sym}
use Rattle.std.specs.Prelude.{slice_get}
use Rattle.bimap_base.specs.NodesInCells.{nodes_in}
use Rattle.bimap_tree.specs.IndexView.{tree_in}
use Rattle.bimap_tree.proofs.Whole.{rank_within, places_are, height_within}
use Rattle.bimap_tree.proofs.ordered.Ordered.place_at.Goals as goal

pub place_in_tree-requires : goal.place_in_tree-requires
place_in_tree-requires g c =
    (tree_in (nodes_in c.self.inside.cells) c.self.inside.root, c.self.invariant.0.index.tree, rank_within _ _ _ _ c.self.invariant.0 c.self.view_is _ c.requires)

pub returns-clause-place : goal.returns-clause-place
returns-clause-place g c =
    ap (λ x. slice_get x c.args.rank) (sym (places_are _ _ _ _ c.self.invariant.0 c.self.view_is))
    ∙ c.place_in_tree.ensures.place _ c.self.invariant.0.index.tree (rank_within _ _ _ _ c.self.invariant.0 c.self.view_is _ c.requires)

pub returns-clause-touches : goal.returns-clause-touches
returns-clause-touches g c =
    omega (arith, c.place_in_tree.ensures.touches _ c.self.invariant.0.index.tree, height_within _ _ _ _ c.self.invariant.0 c.self.view_is)

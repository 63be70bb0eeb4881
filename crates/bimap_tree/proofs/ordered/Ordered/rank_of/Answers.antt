use Rattle.std.proofs.Common.{arith, ap, ◌∙◌, Some}
use Rattle.bimap_base.specs.Keyed.{standing}
use Rattle.bimap_base.specs.NodesInCells.{nodes_in}
use Rattle.bimap_tree.specs.IndexView.{tree_in}
use Rattle.bimap_tree.specs.Order.{count_below}
use Rattle.bimap_tree.proofs.Whole.{can_seek, places_are, height_within, cost_within}
use Rattle.bimap_tree.proofs.ordered.Ordered.rank_of.Goals as goal

pub rank_in_tree-requires : goal.rank_in_tree-requires
rank_in_tree-requires g c = (tree_in (nodes_in c.self.inside.cells) c.self.inside.root, can_seek _ _ _ _ c.self.invariant.0 c.self.view_is _ _ _ g.met.Q.Sought.follows c.requires _)

pub returns : goal.returns
returns g c =
    let s = can_seek _ _ _ _ c.self.invariant.0 c.self.view_is _ _ _ g.met.Q.Sought.follows c.requires c.args.query in
    record {
      rank = c.rank_in_tree.ensures.rank _ s
          ∙ ap (λ x. count_below (λ q. standing g.Q.Sought.order (g.K.Keys.key_at c.args.keys.now q) (Some c.args.query)) x) (places_are _ _ _ _ c.self.invariant.0 c.self.view_is);
      comparisons = cost_within _ _ _ _ c.self.invariant.0 c.self.view_is _ _ c.rank_in_tree.ensures.comparisons;
      touches = omega (arith, c.rank_in_tree.ensures.touches _ c.self.invariant.0.index.tree, height_within _ _ _ _ c.self.invariant.0 c.self.view_is);
    }

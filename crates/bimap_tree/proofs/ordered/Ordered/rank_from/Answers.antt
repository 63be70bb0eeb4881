use Rattle.std.proofs.Common.{arith, ap, sym, subst, ◌∙◌, Some}
use Rattle.bimap_base.specs.Keyed.{standing}
use Rattle.bimap_base.specs.NodesInCells.{nodes_in}
use Rattle.bimap_tree.specs.IndexView.{tree_in}
use Rattle.bimap_tree.specs.Order.{count_below, after_key}
use Rattle.bimap_tree.specs.Ranges.{is_from_start}
use Rattle.bimap_tree.specs.Spans.{IsCut}
use Rattle.bimap_tree.proofs.Spans.{cut_included, cut_excluded, cut_unbounded}
use Rattle.bimap_tree.proofs.Whole.{can_seek, can_seek_after, places_are, height_within, cost_within}
use Rattle.bimap_tree.proofs.ordered.Ordered.rank_from.Goals as goal

pub returns-in-Unbounded-clause-cut : goal.returns-in-Unbounded-clause-cut
returns-in-Unbounded-clause-cut g c =
    subst (λ b. IsCut (is_from_start g.Q.Sought.order b) (g.K.Keys.key_at c.args.keys.now) c.args.self.now.places 0) (sym c.in-Unbounded.is)
    (cut_unbounded _ _ _ g.met.Q.Sought.follows _ c.requires)

pub rank_in_tree-requires : goal.rank_in_tree-requires
rank_in_tree-requires g c = (tree_in (nodes_in c.self.inside.cells) c.self.inside.root, can_seek _ _ _ _ c.self.invariant.0 c.self.view_is _ _ _ g.met.Q.Sought.follows c.requires _)

pub rank_in_tree-requires-in-Excluded : goal.rank_in_tree-requires-in-Excluded
rank_in_tree-requires-in-Excluded g c = (tree_in (nodes_in c.self.inside.cells) c.self.inside.root, can_seek_after _ _ _ _ c.self.invariant.0 c.self.view_is _ _ _ g.met.Q.Sought.follows c.requires _)

pub returns-in-Included : goal.returns-in-Included
returns-in-Included g c =
    let s = can_seek _ _ _ _ c.self.invariant.0 c.self.view_is _ _ _ g.met.Q.Sought.follows c.requires c.in-Included.query in
    let rank = c.rank_in_tree.ensures.rank _ s
    ∙ ap (λ x. count_below (λ q. standing g.Q.Sought.order (g.K.Keys.key_at c.args.keys.now q) (Some c.in-Included.query)) x) (places_are _ _ _ _ c.self.invariant.0 c.self.view_is) in
    record {
      cut = subst (λ b. IsCut (is_from_start g.Q.Sought.order b) (g.K.Keys.key_at c.args.keys.now) c.args.self.now.places c.rank_in_tree.result) (sym c.in-Included.is) (cut_included _ _ _ g.met.Q.Sought.follows _ c.requires _ _ rank);
      comparisons = cost_within _ _ _ _ c.self.invariant.0 c.self.view_is _ _ c.rank_in_tree.ensures.comparisons;
      touches = omega (arith, c.rank_in_tree.ensures.touches _ c.self.invariant.0.index.tree, height_within _ _ _ _ c.self.invariant.0 c.self.view_is);
    }

pub returns-in-Excluded : goal.returns-in-Excluded
returns-in-Excluded g c =
    let s = can_seek_after _ _ _ _ c.self.invariant.0 c.self.view_is _ _ _ g.met.Q.Sought.follows c.requires c.in-Excluded.query in
    let rank = c.rank_in_tree-in-Excluded.ensures.rank _ s
    ∙ ap (λ x. count_below (λ q. after_key (standing g.Q.Sought.order (g.K.Keys.key_at c.args.keys.now q) (Some c.in-Excluded.query))) x) (places_are _ _ _ _ c.self.invariant.0 c.self.view_is) in
    record {
      cut = subst (λ b. IsCut (is_from_start g.Q.Sought.order b) (g.K.Keys.key_at c.args.keys.now) c.args.self.now.places c.rank_in_tree-in-Excluded.result) (sym c.in-Excluded.is) (cut_excluded _ _ _ g.met.Q.Sought.follows _ c.requires _ _ rank);
      comparisons = cost_within _ _ _ _ c.self.invariant.0 c.self.view_is _ _ c.rank_in_tree-in-Excluded.ensures.comparisons;
      touches = omega (arith, c.rank_in_tree-in-Excluded.ensures.touches _ c.self.invariant.0.index.tree, height_within _ _ _ _ c.self.invariant.0 c.self.view_is);
    }

use Rattle.std.proofs.Common.{◌∙◌, sym, refl, subst}
use Rattle.bimap_base.specs.NodesInCells.{nodes_in}
use Rattle.bimap_tree.specs.Ends.{KeepsEnds}
use Rattle.bimap_tree.specs.IndexView.{index_of}
use Rattle.bimap_tree.specs.Route.{IsRoute}
use Rattle.bimap_tree.proofs.Routes.{IsRoute-grown}
use Rattle.bimap_tree.proofs.Whole.{whole_grown, tree_grown, places_grown, places_are}
use Rattle.bimap_tree.proofs.ordered.Ordered.grow.Goals as goal

pub invariant_of-self : goal.invariant_of-self
invariant_of-self c = (c.self.invariant.0, c.make_ends.ensures.kept _ c.self.invariant.1)

pub invariant_of-self-2 : goal.invariant_of-self-2
invariant_of-self-2 c = (
  whole_grown _ _ _ _ c.self.invariant.0 c.self.view_is _ c.grow.ensures.kept,
  subst (λ t. KeepsEnds c.make_ends.new.kept t) (sym (tree_grown _ _ _ _ c.self.invariant.0 c.self.view_is _ c.grow.ensures.kept)) (c.make_ends.ensures.kept _ c.self.invariant.1),
)

pub returns-clause-places : goal.returns-clause-places
returns-clause-places c = places_grown _ _ _ _ c.self.invariant.0 c.self.view_is _ c.grow.ensures.kept

pub returns-clause-routes : goal.returns-clause-routes
returns-clause-routes c go route =
    let places = places_grown _ _ _ _ c.self.invariant.0 c.self.view_is _ c.grow.ensures.kept ∙ sym (places_are _ _ _ _ c.self.invariant.0 c.self.view_is) in
    subst (λ v. IsRoute v go route → IsRoute (index_of (nodes_in c.grow.new.self) c.self.inside.root) go route) c.self.view_is (IsRoute-grown (index_of (nodes_in c.self.inside.cells) c.self.inside.root) (index_of (nodes_in c.grow.new.self) c.self.inside.root) go route c.grow.ensures.kept refl places)

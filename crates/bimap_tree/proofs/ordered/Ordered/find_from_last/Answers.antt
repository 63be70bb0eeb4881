use Rattle.std.proofs.Common.{◌≡◌, ◌≤◌, Option, Some, None, ℕ, false, refl, arith, ap, ◌∙◌, lit<}
use Rattle.bimap_base.specs.Digits.{most_height}
use Rattle.bimap_base.proofs.Digits.{bits-least}
use Rattle.bimap_base.specs.Keyed.{standing}
use Rattle.bimap_base.specs.NodesInCells.{nodes_in}
use Rattle.bimap_base.specs.QueryLaws.{follows_itself}
use Rattle.bimap_tree.specs.IndexView.{height_at, tree_in}
use Rattle.bimap_tree.specs.declared.descent.Descent.{Descent}
use Rattle.bimap_tree.specs.Descent.{IsDown}
use Rattle.bimap_tree.proofs.AtEnds.{past_of}
use Rattle.bimap_tree.proofs.Found.{found_in, none_in}
use Rattle.bimap_tree.proofs.Shown.{height_told}
use Rattle.bimap_tree.proofs.UnderWay.{finds_on, goes_on_down, leads_on, none_listed, of_noted, of_past, past_none, starts_down}
use Rattle.bimap_tree.proofs.Whole.{can_seek, places_are}
use Rattle.bimap_tree.proofs.ordered.Ordered.find_from_last.Given.{Over}
use Rattle.bimap_tree.proofs.ordered.Ordered.find_from_last.Goals as goal
use Rattle.bimap_tree.proofs.ordered.Ordered.find_from_last.Goals.{After-is_past_last}

pub is_past_last-requires : goal.is_past_last-requires
is_past_last-requires g c = (_, c.self.invariant.1, (can_seek _ _ _ _ c.self.invariant.0 c.self.view_is _ _ _ (follows_itself g.met.K.Keys.total) c.requires c.args.key.now).all_live)

-- An index that lists nothing keeps no route, so it compares with no place.
none_compared : (g : Over) (c : After-is_past_last g) → c.args.self.now.root ≡ None → g.M.Meter.comparisons c.is_past_last.new.meter ≤ g.M.Meter.comparisons c.args.meter.now
none_compared g c none =
    let low = c.is_past_last.ensures.few _ c.self.invariant.1 c.self.invariant.0.index.balanced in
    omega (arith, low, height_told _ _ _ c.self.invariant.0.index.tree, ap (λ v. height_at v.nodes v.root) c.self.view_is, ap (λ x. height_at c.args.self.now.nodes x) none, ap most_height (none_listed _ _ c.self.invariant.0.index.tree (ap (λ v. v.root) c.self.view_is ∙ none)), bits-least 0 0 (lit< tt))

-- The key is past the last place, so no listed place has an equal key.
pub returns-then-is_past_last : goal.returns-then-is_past_last
returns-then-is_past_last g c =
    let past = past_of c.args.self.now _ (tree_in (nodes_in c.self.inside.cells) c.self.inside.root) (places_are _ _ _ _ c.self.invariant.0 c.self.view_is)
    (c.is_past_last.ensures.past c.if-is_past_last.true _ c.self.invariant.1 (can_seek _ _ _ _ c.self.invariant.0 c.self.view_is _ _ _ (follows_itself g.met.K.Keys.total) c.requires c.args.key.now).in_order) in
    record {
      found = tt;
      none = past_none c.args.self.now _ past;
      route = of_past c.args.self.now _ _ refl past;
      comparisons = omega (arith, c.is_past_last.ensures.one);
      empty = λ none. omega (arith, none_compared g (goal.at.returns-then-is_past_last g c).After-is_past_last none);
      touches = omega (arith, c.is_past_last.ensures.touches);
    }

-- The search goes down from the root.
abbrev from_root : Option ℕ → Descent
from_root root = record { root = root; depth = 0; is_found = false; top = None }

at_root : (g : Over) (c : After-is_past_last g) → IsDown c.args.self.now (λ q. standing g.K.Keys.order (g.K.Keys.key_at c.args.keys.now q) (Some c.args.key.now)) (from_root c.self.inside.root) c.args.route.now
at_root g c = starts_down _ _ _ _ c.self.invariant.0 c.self.view_is (from_root c.self.inside.root) refl refl refl _ c.args.route.now

pub route_in_tree-found-requires : goal.route_in_tree-found-requires
route_in_tree-found-requires g c =
    (_, _, (goes_on_down _ _ _ _ c.self.invariant.0 c.self.view_is _ _ g.met.K.Keys.total c.requires _ _ _ (at_root g (goal.at.route_in_tree-found-requires g c).After-is_past_last)).0)

pub returns : goal.returns
returns g c =
    let d = at_root g (goal.at.returns g c).After-is_past_last in
    let first = finds_on _ _ _ _ c.self.invariant.0 c.self.view_is _ _ g.met.K.Keys.total c.requires _ _ _ d _ c.route_in_tree-found.ensures.found in
    record {
      found = found_in _ _ _ first;
      none = none_in _ _ _ first;
      route = of_noted _ _ c.route_in_tree-found.new.route _ _ refl refl refl (leads_on _ _ _ _ c.self.invariant.0 c.self.view_is _ _ g.met.K.Keys.total c.requires _ _ _ d _ _ (λ path s can none. c.route_in_tree-found.ensures.follows path s can));
      comparisons = omega (arith, c.is_past_last.ensures.one, c.route_in_tree-found.ensures.comparisons _ c.self.invariant.0.index.tree, height_told _ _ _ c.self.invariant.0.index.tree, ap (λ v. height_at v.nodes v.root) c.self.view_is);
      empty = λ none. omega (arith, none_compared g (goal.at.returns g c).After-is_past_last none, c.route_in_tree-found.ensures.comparisons _ c.self.invariant.0.index.tree, height_told _ _ _ c.self.invariant.0.index.tree, ap (λ v. height_at v.nodes v.root) c.self.view_is, ap (λ x. height_at c.args.self.now.nodes x) none);
      touches = omega (arith, c.is_past_last.ensures.touches, c.route_in_tree-found.ensures.touches _ c.self.invariant.0.index.tree, height_told _ _ _ c.self.invariant.0.index.tree, ap (λ v. height_at v.nodes v.root) c.self.view_is);
    }

-- Routes of keys that compare alike, and routes after cells were added.
use Rattle.std.proofs.Common.{◌≡◌, ℕ, ◌<◌, length, sym, subst, ◌∙◌, arith}
use Rattle.std.specs.Prelude.{slice_get}
use Rattle.std.specs.List.{Contains}
use Rattle.std.specs.declared.cmp.Ordering.{Ordering}
use Rattle.bimap_tree.specs.Tree.{leaf, Stands}
use Rattle.bimap_tree.specs.IndexView.{IndexView, IsIndex}
use Rattle.bimap_tree.specs.Path.{plug}
use Rattle.bimap_tree.specs.Route.{IsNotedRoute, IsRoute}
use Rattle.bimap_tree.specs.declared.route.Route.{Route}
use Rattle.bimap_tree.proofs.Distinct.{occurs_contains}
use Rattle.bimap_tree.proofs.Paths.{occurs-plug, Wants-alike}
use Rattle.bimap_tree.proofs.Shown.{Shows-frame, in_tree}

IsNotedRoute-alike : (index : IndexView) (first second : ℕ → Ordering) (route : Route) → ((q : ℕ) → Contains index.places q → second q ≡ first q) → IsNotedRoute index first route → IsNotedRoute index second route
IsNotedRoute-alike index first second route same r = record {
  path = r.path;
  of_index = r.of_index;
  follows = r.follows;
  depth_is = r.depth_is;
  wants = Wants-alike first second r.path
      (λ q n. same q (subst (λ x. Contains x q) r.of_index.in_order (occurs_contains (plug r.path leaf) q (omega (arith, occurs-plug q r.path leaf))))) r.wants;
}

-- If the listed places compare alike with two keys, a route of one key is a route of the other.
pub IsRoute-alike : (index : IndexView) (first second : ℕ → Ordering) (route : Route) → ((q : ℕ) → Contains index.places q → second q ≡ first q) → IsRoute index first route → IsRoute index second route
IsRoute-alike index first second route same r = record {
  noted = λ e. IsNotedRoute-alike index first second route same (r.noted e);
  past = λ e p there. same p there ∙ r.past e p there;
}

IsNotedRoute-grown : (old new : IndexView) (go : ℕ → Ordering) (route : Route) → ((k : ℕ) → k < length old.nodes → slice_get new.nodes k ≡ slice_get old.nodes k) → new.root ≡ old.root → new.places ≡ old.places → IsNotedRoute old go route → IsNotedRoute new go route
IsNotedRoute-grown old new go route same root places h =
    let t = plug h.path leaf in
    let stands : Stands new.nodes old.root t = record { root_is = h.of_index.tree.tree.root_is; shown = Shows-frame old.nodes new.nodes t (λ q n. same q (in_tree old.nodes t q h.of_index.tree.tree.shown n)) h.of_index.tree.tree.shown } in
    let index : IsIndex new.nodes new.root t = record { tree = subst (λ r. Stands new.nodes r t) (sym root) stands; balanced = h.of_index.tree.balanced; distinct = h.of_index.tree.distinct } in
    record {
      path = h.path;
      of_index = record { tree = index; in_order = h.of_index.in_order ∙ sym places };
      follows = h.follows;
      depth_is = h.depth_is;
      wants = h.wants;
    }

-- Cells that are added change no route.
pub IsRoute-grown : (old new : IndexView) (go : ℕ → Ordering) (route : Route) → ((k : ℕ) → k < length old.nodes → slice_get new.nodes k ≡ slice_get old.nodes k) → new.root ≡ old.root → new.places ≡ old.places → IsRoute old go route → IsRoute new go route
IsRoute-grown old new go route same root places h = record {
  noted = λ e. IsNotedRoute-grown old new go route same root places (h.noted e);
  past = λ e p there. h.past e p (subst (λ x. Contains x p) places there);
}

-- Changes of an index at its ends, to which it keeps the routes.
use Rattle.std.proofs.Common.{◌≡◌, ℕ, ◌+◌, ◌-◌, ◌≤◌, ◌<◌, suc, Bool, true, false, List, Option, Some, None, refl, sym, subst, ◌∙◌, ap, arith}
use Rattle.std.proofs.Math.Nat.{pow-suc}
use Rattle.std.specs.Prelude.{is_some}
use Rattle.std.specs.List.{Contains}
use Rattle.std.specs.declared.cmp.Ordering.{Ordering}
use Rattle.std.specs.declared.cmp.Ordering.TheVariants.{Less}
use Rattle.bimap_base.specs.declared.cells.Node.{Node}
use Rattle.bimap_base.specs.Digits.{bits, most_height}
use Rattle.bimap_base.proofs.Digits.{bits-enough, bits-least}
use Rattle.bimap_tree.specs.Ends.{HasFirst, KeepsEnds, LeadsDown, LeadsToEnd}
use Rattle.bimap_tree.specs.IndexView.{IndexView, IsBalancedIndex, IsWhole, tree_in}
use Rattle.bimap_tree.specs.Order.{AllStand}
use Rattle.bimap_tree.specs.Remove.{IsTaken}
use Rattle.bimap_tree.specs.Path.{Path, top, below, plug, occurs_on, AllGo, Wants, wanted}
use Rattle.bimap_tree.specs.Route.{IsFollowed, IsNotedRoute, IsPast}
use Rattle.bimap_tree.specs.Tree.{Tree, leaf, fork, branch, height, reading}
use Rattle.bimap_tree.specs.declared.ends.Kept.{Kept}
use Rattle.bimap_tree.specs.declared.route.Route.{Route}
use Rattle.bimap_tree.proofs.Branch.{root-branch}
use Rattle.bimap_tree.proofs.Distinct.{occurs_contains, contains_occurs, occurs_all}
use Rattle.bimap_tree.proofs.EndRoutes.{end_occurs, leads_to}
use Rattle.bimap_tree.proofs.Heights.{few_levels, low}
use Rattle.bimap_tree.proofs.Paths.{occurs-plug}
use Rattle.bimap_tree.proofs.Shown.{is_at-same}

pub a_place : (found : Option ℕ) → is_some found ≡ true → (place : ℕ) × (found ≡ Some place)
a_place None e = absurd (cc)
a_place (Some place) e = (place, refl)

-- ---- The tree of an index is not too high.
module _ (ns : List Node) (root : Option ℕ) (len : ℕ) (w : IsWhole ns root len) where
  pub whole_low : height (tree_in ns root) ≤ 91
  whole_low = few_levels (tree_in ns root) w.index.balanced (omega (arith, w.counted, w.few))

  pub whole_within : (n : ℕ) → len ≤ n → height (tree_in ns root) ≤ most_height n
  whole_within n fewer = low (tree_in ns root) w.index.balanced n (omega (arith, w.counted, fewer))

  -- A place more is two levels more at most.
  pub whole_next : (n : ℕ) → len ≡ n + 1 → height (tree_in ns root) ≤ most_height n + 2
  whole_next n e = omega (arith, whole_within (n + 1) (omega (arith, e)), bits-least (n + 1) (suc (bits n)) (omega (arith, bits-enough n, pow-suc 2 (bits n))))

-- ---- The route past the last place.
pub down_of_end : (direction : Bool) (route : Route) (place : ℕ) (t : Tree) → LeadsToEnd direction route place t → LeadsDown direction route t
down_of_end direction route place t e = record { path = below e.up direction place e.sister; is = e.is; follows = e.follows; depth_is = e.depth_is; goes = (refl, e.goes) }

wants_past : (go : ℕ → Ordering) (path : Path) → AllGo true path → ((q : ℕ) → 0 < occurs_on q path → go q ≡ Less) → Wants go path
wants_past go top goes less = tt
wants_past go (below up turned p sister) goes less = (less p (omega (arith, is_at-same p)) ∙ ap wanted (sym goes.0), wants_past go up goes.1 (λ q some. less q (omega arith)))

pub past_route : (v : IndexView) (go : ℕ → Ordering) (route : Route) (t : Tree) → IsBalancedIndex v t → LeadsDown true route t → IsPast v go → (r : IsNotedRoute v go route) × AllGo true r.path × (t ≡ plug r.path leaf)
past_route v go route t shown d past =
    let of_index : IsBalancedIndex v (plug d.path leaf) = subst (λ x. IsBalancedIndex v x) d.is shown in (
      record {
        path = d.path;
        of_index = of_index;
        follows = d.follows;
        depth_is = d.depth_is;
        wants = wants_past go d.path d.goes
            (λ q some. past q (subst (λ x. Contains x q) of_index.in_order (occurs_contains (plug d.path leaf) q (omega (arith, some, occurs-plug q d.path leaf)))));
      },
      d.goes,
      d.is,
    )

-- If the places of the tree are below the key, the listed places are.
pub past_of : (v : IndexView) (go : ℕ → Ordering) (t : Tree) → reading t ≡ v.places → AllStand go Less (reading t) → IsPast v go
past_of v go t is all p there = occurs_all (λ q. go q ≡ Less) t all p (contains_occurs t p (subst (λ x. Contains x p) (sym is) there))

-- ---- The route to the place at an end.
wants_same : (direction : Bool) (path : Path) → AllGo direction path → Wants (λ q. wanted direction) path
wants_same direction top goes = tt
wants_same direction (below up turned p sister) goes = (ap wanted (sym goes.0), wants_same direction up goes.1)

-- The place at an end is listed.
pub end_listed : (v : IndexView) (direction : Bool) (route : Route) (place : ℕ) (t : Tree) → reading t ≡ v.places → LeadsToEnd direction route place t → Contains v.places place
end_listed v direction route place t is e = subst (λ x. Contains x place) is (occurs_contains t place (end_occurs direction route place t e))

pub first_listed : (v : IndexView) (kept : Kept) (place : ℕ) (t : Tree) → KeepsEnds kept t → HasFirst kept place → reading t ≡ v.places → Contains v.places place
first_listed v kept place t keeps first is =
    let (route, leads) = leads_to false kept.ends place first.1 t (keeps first.0) in
    end_listed v false route place t is leads

-- The same route without its last entry.
abbrev pub before_end : Route → Route
before_end route = record { steps = route.steps; depth = route.depth - 1; seen = route.seen; is_past = route.is_past }

pub end_followed : (direction : Bool) (route : Route) (place : ℕ) (t : Tree) → (e : LeadsToEnd direction route place t) → IsFollowed (λ q. wanted direction) (before_end route) (before_end route).depth (Some place) t e.up (branch direction leaf place e.sister)
end_followed direction route place t e = record {
  whole = sym e.is;
  follows = e.follows.1;
  depth_is = omega (arith, e.depth_is);
  wants = wants_same direction e.up e.goes;
  root_is = root-branch direction leaf place e.sister;
}

-- What is true of the two subtrees of a removed place, however they were found.
pub taken_at : (old new : List Node) (path : Path) (s a b : Tree) (place : ℕ) (l r : Tree) (next : Option ℕ) → s ≡ fork a place b → s ≡ fork l place r → (v : Tree) × IsTaken old new path a b next v → (v : Tree) × IsTaken old new path l r next v
taken_at old new path s a b place l r next one two done =
    let both : fork a place b ≡ fork l place r = sym one ∙ two in
    let left : a ≡ l = cc in
    let right : b ≡ r = cc in
    subst (λ x. (v : Tree) × IsTaken old new path l x next v) right (subst (λ x. (v : Tree) × IsTaken old new path x b next v) left done)

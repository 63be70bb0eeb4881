-- What a `Route` stores.
use Rattle.std.specs.Prelude.{◌≡◌, ℕ, ◌+◌, ◌≤◌, true, false, List, Option}
use Rattle.std.specs.List.{Contains}
use Rattle.std.specs.declared.cmp.Ordering.TheVariants.{Less}
use Rattle.std.specs.declared.cmp.Ordering.{Ordering}
use Rattle.bimap_base.specs.declared.cells.Node.{Node}
use Rattle.bimap_tree.specs.Tree.{Tree, leaf, height, root_of}
use Rattle.bimap_tree.specs.IndexView.{IndexView, IsBalancedIndex}
use Rattle.bimap_tree.specs.Path.{Path, plug, steps, Follows, Wants}
use Rattle.bimap_tree.specs.Search.{CanSeek}
use Rattle.bimap_tree.specs.Notes.{packed, step_at}
use Rattle.bimap_tree.specs.declared.route.Route.{Route}

-- The entries of the route lead down the tree of the index to where no place is. `go` says how each place compares with a key, and the route
-- has the direction of that key at each place.
pub record IsNotedRoute (index : IndexView) (go : ℕ → Ordering) (route : Route) : Type 0 where
  pub path : Path
  pub of_index : IsBalancedIndex index (plug path leaf)
  pub follows : Follows packed (step_at route) path
  pub depth_is : route.depth ≡ steps path
  pub wants : Wants go path

-- Each listed place is below the key.
abbrev pub IsPast : IndexView → (ℕ → Ordering) → Type 0
IsPast index go = (p : ℕ) → Contains index.places p → go p ≡ Less

-- The route leads to where a place with the key belongs. The route past the last place has no entries of its own: it is that of
-- the index.
pub record IsRoute (index : IndexView) (go : ℕ → Ordering) (route : Route) : Type 0 where
  pub noted : route.is_past ≡ false → IsNotedRoute index go route
  pub past : route.is_past ≡ true → IsPast index go

-- The search has come along the route `path` to the subtree `s`, and may go on.
pub record CanFollow (nodes : List Node) (root : Option ℕ) (live : ℕ → Type 0) (go : ℕ → Ordering) (route : Route) (depth : ℕ) (path : Path) (s : Tree) : Type 0 where
  pub seek : CanSeek nodes root live go s
  pub follows : Follows packed (step_at route) path
  pub depth_is : depth ≡ steps path
  pub wants : Wants go path
  pub deep : depth + height s ≤ 91

-- The search has come along the route `path`, from a tree `t`, to a subtree with this root.
pub record IsFollowed (go : ℕ → Ordering) (route : Route) (depth : ℕ) (root : Option ℕ) (t : Tree) (path : Path) (e : Tree) : Type 0 where
  pub whole : plug path e ≡ t
  pub follows : Follows packed (step_at route) path
  pub depth_is : depth ≡ steps path
  pub wants : Wants go path
  pub root_is : root_of e ≡ root

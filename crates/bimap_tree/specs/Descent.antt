-- What is known of a search that is under way.
use Rattle.std.specs.Prelude.{◌≡◌, ℕ, ◌+◌, true, false, cond, is_some, List, Some, None}
use Rattle.std.specs.declared.cmp.Ordering.{Ordering}
use Rattle.std.specs.declared.cmp.Ordering.TheVariants.{Equal}
use Rattle.bimap_base.specs.declared.cells.Node.{Node}
use Rattle.bimap_tree.specs.Tree.{Tree, root_of}
use Rattle.bimap_tree.specs.IndexView.{IndexView, IsBalancedIndex, height_at}
use Rattle.bimap_tree.specs.Path.{Path, plug, steps, Follows, Wants}
use Rattle.bimap_tree.specs.Notes.{packed, step_at}
use Rattle.bimap_tree.specs.declared.descent.Descent.{Descent}
use Rattle.bimap_tree.specs.declared.route.Route.{Route}

-- The number of levels below that a search may still look at.
abbrev pub levels_below : List Node → Descent → ℕ
levels_below nodes descent = cond descent.is_found 0 (height_at nodes descent.root)

-- The number of comparisons that a search may still take. If it tries the last place first, that is one more than all levels.
abbrev pub levels_left : List Node → Descent → ℕ
levels_left nodes descent = cond (is_some descent.top) (height_at nodes descent.top + 1) (levels_below nodes descent)

-- The search has come down the tree of the index to a subtree. `go` says how each place compares with the key that is searched
-- for. If the search has found the key, it is the key of the place at the top of the subtree.
pub record IsDown (index : IndexView) (go : ℕ → Ordering) (descent : Descent) (route : Route) : Type 0 where
  pub path : Path
  pub rest : Tree
  pub of_index : IsBalancedIndex index (plug path rest)
  pub root_is : root_of rest ≡ descent.root
  pub follows : Follows packed (step_at route) path
  pub depth_is : descent.depth ≡ steps path
  pub wants : Wants go path
  pub found : descent.is_found ≡ true → (place : ℕ) × (descent.root ≡ Some place) × (go place ≡ Equal)

-- The search has come down to a subtree. Or it is to try the last place first, and has taken no step.
pub record IsUnderWay (index : IndexView) (go : ℕ → Ordering) (descent : Descent) (route : Route) : Type 0 where
  pub down : descent.top ≡ None → IsDown index go descent route
  pub whole : (place : ℕ) → descent.top ≡ Some place → (descent.top ≡ index.root) × (descent.root ≡ None) × (descent.depth ≡ 0) × (descent.is_found ≡ false)

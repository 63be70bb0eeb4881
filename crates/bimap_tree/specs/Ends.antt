-- The routes to the two ends of a tree, which an index keeps.
use Rattle.std.specs.Prelude.{◌≡◌, ℕ, suc, ◌+◌, ◌≤◌, Bool, true, false, List, Option, Some, None}
use Rattle.std.specs.Global.{Box}
use Rattle.bimap_base.specs.declared.cells.Node.{Node}
use Rattle.bimap_tree.specs.IndexView.{tree_in}
use Rattle.bimap_tree.specs.Tree.{Tree, leaf, fork, height, Stands}
use Rattle.bimap_tree.specs.Path.{Path, below, plug, steps, Follows, AllGo, wanted}
use Rattle.bimap_tree.specs.Notes.{packed, step_at}
use Rattle.bimap_tree.specs.Remove.{IsTaken}
use Rattle.bimap_tree.specs.Route.{IsFollowed}
use Rattle.bimap_tree.specs.declared.route.Route.{Route}
use Rattle.bimap_tree.specs.declared.ends.End.{End}
use Rattle.bimap_tree.specs.declared.ends.Ends.{Ends}
use Rattle.bimap_tree.specs.declared.ends.Kept.{Kept}

-- The first `depth` entries of the route lead in one direction to the subtree `s`, from which the route may be noted on.
pub record CanNote (nodes : List Node) (at : Option ℕ) (direction : Bool) (route : Route) (depth : ℕ) (path : Path) (s : Tree) : Type 0 where
  pub tree : Stands nodes at s
  pub follows : Follows packed (step_at route) path
  pub depth_is : depth ≡ steps path
  pub goes : AllGo direction path
  pub deep : depth + height s ≤ 91

-- The route leads in one direction down the tree `t`, to where no place is.
pub record LeadsDown (direction : Bool) (route : Route) (t : Tree) : Type 0 where
  pub path : Path
  pub is : t ≡ plug path leaf
  pub follows : Follows packed (step_at route) path
  pub depth_is : route.depth ≡ steps path
  pub goes : AllGo direction path

-- The route leads in one direction down the tree `t`, to its end. The last place there is `place`.
pub record LeadsToEnd (direction : Bool) (route : Route) (place : ℕ) (t : Tree) : Type 0 where
  pub up : Path
  pub sister : Tree
  pub is : t ≡ plug (below up direction place sister) leaf
  pub follows : Follows packed (step_at route) (below up direction place sister)
  pub depth_is : route.depth ≡ suc (steps up)
  pub goes : AllGo direction up

-- If the route to this end is kept, it leads to the end of the tree in this direction.
abbrev pub IsKept : Bool → End → Tree → Type 0
IsKept direction end t = (place : ℕ) → end.place ≡ Some place → LeadsToEnd direction end.route place t

-- So does each of the two routes in a box, if there is a box.
abbrev pub AreKept : Option (Box Ends) → Tree → Type 0
AreKept None t = Unit {0}
AreKept (Some ends) t = IsKept false ends.value.first t × IsKept true ends.value.last t

-- So does each route that an index keeps.
abbrev pub KeepsEnds : Kept → Tree → Type 0
KeepsEnds kept t = kept.any ≡ true → AreKept kept.ends t

-- The box has a place for the end in this direction.
abbrev pub HasEnd : Bool → Option (Box Ends) → ℕ → Type 0
HasEnd direction None place = ⊥
HasEnd false (Some ends) place = ends.value.first.place ≡ Some place
HasEnd true (Some ends) place = ends.value.last.place ≡ Some place

-- The index keeps the route to this first place.
abbrev pub HasFirst : Kept → ℕ → Type 0
HasFirst kept place = (kept.any ≡ true) × HasEnd false kept.ends place

-- The index keeps the route to this last place.
abbrev pub HasLast : Kept → ℕ → Type 0
HasLast kept place = (kept.any ≡ true) × HasEnd true kept.ends place

-- The first place was removed from the tree at `root`, at the end of a route to the left. The new root is `next`.
pub record IsFirstTaken (old new : List Node) (root : Option ℕ) (place : ℕ) (next : Option ℕ) : Type 0 where
  pub route : Route
  pub path : Path
  pub rest : Tree
  pub followed : IsFollowed (λ q. wanted false) route route.depth (Some place) (tree_in old root) path rest
  pub taken : (l r : Tree) → rest ≡ fork l place r → (v : Tree) × IsTaken old new path l r next v

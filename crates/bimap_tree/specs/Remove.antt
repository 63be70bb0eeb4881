-- The removal of the place at the end of a route.
use Rattle.std.specs.Prelude.{◌≡◌, ℕ, suc, ◌+◌, ◌≤◌, ◌<◌, ◌^◌, Bool, false, List, [], ◌∷◌, ◌++◌, Option, Some, slice_get, length}
use Rattle.bimap_base.specs.declared.cells.Node.{Node}
use Rattle.bimap_tree.specs.Tree.{Tree, leaf, fork, reading, height, size, occurs, IsBalanced, IsDistinctTree, Shows, Stands}
use Rattle.bimap_tree.specs.Path.{Path, below, plug, steps, front, back, occurs_on, Follows, KeepsWhole, Holds}
use Rattle.bimap_tree.specs.Notes.{Notes}

-- A tree whose leftmost part is `t`. Each item of the list is a place on the route to the left, with its right subtree.
abbrev pub hang : List (ℕ × Tree) → Tree → Tree
hang [] t = t
hang (x ∷ xs) t = fork (hang xs t) x.0 x.1

-- The route that goes on from `path` to the left, past each of these places.
abbrev pub onward : Path → List (ℕ × Tree) → Path
onward path [] = path
onward path (x ∷ xs) = onward (below path false x.0 x.1) xs

-- The entries noted from a depth on are those of the places on the route to the left. `kept` says how a place is stored.
abbrev pub FollowsOn : (ℕ → ℕ) → (ℕ → ℕ × Bool) → ℕ → List (ℕ × Tree) → Type 0
FollowsOn kept noted depth [] = Unit {0}
FollowsOn kept noted depth (x ∷ xs) = (noted depth ≡ (kept x.0, false)) × FollowsOn kept noted (suc depth) xs

-- The route to the first place of this tree fits into a `Route`.
pub record CanDescend (nodes : List Node) (at depth : ℕ) (s : Tree) : Type 0 where
  pub tree : Stands nodes (Some at) s
  pub deep : depth + height s ≤ 91

-- The route from this depth on to the first place of the tree was noted. The first place has no left subtree.
pub record IsFirst (old new : Notes) (depth : ℕ) (s : Tree) (first low : ℕ) (lefts : List (ℕ × Tree)) (rest : Tree) : Type 0 where
  pub whole : s ≡ hang lefts (fork leaf first rest)
  pub low_is : low ≡ depth + length lefts
  pub kept_is : new.kept ≡ old.kept
  pub follows : FollowsOn new.kept new.step_at depth lefts
  pub same_above : (i : ℕ) → i < depth → new.step_at i ≡ old.step_at i

-- A tree of the same height and size may replace `s` at the end of a route with this many entries.
pub record CanReplace (nodes : List Node) (notes : Notes) (depth : ℕ) (path : Path) (s : Tree) : Type 0 where
  pub follows : Follows notes.kept notes.step_at path
  pub whole : KeepsWhole nodes notes
  pub depth_is : depth ≡ steps path
  pub deep : depth ≤ 91
  pub holds : Holds nodes path s
  pub distinct : (q : ℕ) → occurs_on q path ≤ 1

-- The tree `t` has replaced it.
pub record IsReplaced (old new : List Node) (path : Path) (t : Tree) : Type 0 where
  pub holds : Holds new path t
  pub same_elsewhere : (q : ℕ) → occurs_on q path ≡ 0 → slice_get new q ≡ slice_get old q

-- The place at the end of the route may be removed.
pub record CanTake (nodes : List Node) (notes : Notes) (path : Path) (l : Tree) (at : ℕ) (r : Tree) : Type 0 where
  pub follows : Follows notes.kept notes.step_at path
  pub depth_is : notes.depth ≡ steps path
  pub shown : Shows nodes (plug path (fork l at r))
  pub distinct : IsDistinctTree (plug path (fork l at r))
  pub balanced : IsBalanced (plug path (fork l at r))
  pub deep : height (plug path (fork l at r)) ≤ 91
  pub fits : size (plug path (fork l at r)) < 2 ^ 64

-- The tree `v` is what is left after the place was removed.
pub record IsTaken (old new : List Node) (path : Path) (l r : Tree) (root : Option ℕ) (v : Tree) : Type 0 where
  pub tree : Stands new root v
  pub in_order : reading v ≡ (front path ++ reading l) ++ reading r ++ back path
  pub same_places : (q : ℕ) → occurs q v ≡ occurs_on q path + occurs q l + occurs q r
  pub balanced : IsBalanced v
  pub same_length : length new ≡ length old

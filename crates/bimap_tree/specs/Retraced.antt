-- A route down which a second descent goes.
use Rattle.std.specs.Prelude.{◌≡◌, ℕ, ◌≤◌, List, Option}
use Rattle.bimap_base.specs.declared.cells.Node.{Node}
use Rattle.bimap_tree.specs.Path.{Path, plug, steps, Follows}
use Rattle.bimap_tree.specs.Notes.{Notes}
use Rattle.bimap_tree.specs.Tree.{Tree, Stands}

-- The noted route leads down the tree at this root to the subtree `s`.
pub record CanRetrace (nodes : List Node) (root : Option ℕ) (notes : Notes) (path : Path) (s : Tree) : Type 0 where
  pub tree : Stands nodes root (plug path s)
  pub follows : Follows notes.kept notes.step_at path
  pub depth_is : notes.depth ≡ steps path
  pub deep : notes.depth ≤ 91

-- The noted route is the route `path`.
pub record IsRetraced (notes : Notes) (path : Path) : Type 0 where
  pub follows : Follows notes.kept notes.step_at path
  pub depth_is : notes.depth ≡ steps path

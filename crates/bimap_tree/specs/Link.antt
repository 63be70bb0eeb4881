-- A place is linked above two trees.
use Rattle.std.specs.Prelude.{◌≡◌, ℕ, ◌+◌, ◌≤◌, ◌<◌, ◌^◌, max, Bool, List, slice_get, length}
use Rattle.bimap_base.specs.declared.cells.Node.{Node}
use Rattle.bimap_base.specs.Digits.{most_height}
use Rattle.bimap_tree.specs.Tree.{Tree, reading, height, size, root_of, IsBalanced, Shows, is_at, occurs, branch}
use Rattle.bimap_tree.specs.declared.link.Subtree.{Subtree}

-- The `Subtree` has the root, the height and the size of the tree.
pub record Measures (told : Subtree) (t : Tree) : Type 0 where
  pub root_is : root_of t ≡ told.root
  pub height_is : told.height ≡ height t
  pub size_is : told.size ≡ size t

-- A place may be linked above two trees.
pub record CanLink (nodes : List Node) (place : ℕ) (near far : Tree) : Type 0 where
  pub has_cell : place < length nodes
  pub near_shown : Shows nodes near
  pub far_shown : Shows nodes far
  pub room : size near + size far + 1 ≤ length nodes
  pub near_low : height near ≤ most_height (length nodes)
  pub far_low : height far ≤ most_height (length nodes)
  pub fits : size near + size far + 1 < 2 ^ 64

-- A place may be linked above two balanced trees whose heights differ by at most two.
pub record CanRebalance (nodes : List Node) (place : ℕ) (near far : Tree) : Type 0 where
  pub link : CanLink nodes place near far
  pub distinct : (q : ℕ) → occurs q near + is_at q place + occurs q far ≤ 1
  pub near_balanced : IsBalanced near
  pub far_balanced : IsBalanced far
  pub near_level : height near ≤ height far + 2
  pub far_level : height far ≤ height near + 2

-- The tree that results after a place was linked above two trees, with the rotations that were needed.
pub record IsRebalanced (old new : List Node) (direction : Bool) (place : ℕ) (near far : Tree) (t : Tree) : Type 0 where
  pub shown : Shows new t
  pub in_order : reading t ≡ reading (branch direction near place far)
  pub same_places : (q : ℕ) → occurs q t ≡ occurs q near + is_at q place + occurs q far
  pub balanced : IsBalanced t
  pub not_lower : max (height near) (height far) ≤ height t
  pub at_most_one_higher : height t ≤ max (height near) (height far) + 1
  pub level : height near ≤ height far + 1 → height far ≤ height near + 1 → height t ≡ max (height near) (height far) + 1
  pub same_elsewhere : (q : ℕ) → occurs q near + is_at q place + occurs q far ≡ 0 → slice_get new q ≡ slice_get old q
  pub same_length : length new ≡ length old

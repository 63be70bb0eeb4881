-- A subtree of an index that a descent has come to, with the ranks of its places.
use Rattle.std.specs.Prelude.{◌≡◌, ℕ, ◌+◌, ◌≤◌, ◌<◌, ◌++◌, List, length}
use Rattle.bimap_base.specs.declared.cells.Node.{Node}
use Rattle.bimap_tree.specs.Filled.{CanFill, place_in}
use Rattle.bimap_tree.specs.Tree.{Tree, reading, size}
use Rattle.bimap_tree.specs.declared.walk.RankedSubtree.{RankedSubtree}

-- The listed places are `front`, the place before the tree, the places of the tree, the place behind it, and `back`. The rank
-- is one of those between `front` and `back`.
pub record IsRankedSubtree (nodes : List Node) (places : List ℕ) (rank : ℕ) (subtree : RankedSubtree) (tree : Tree) : Type 0 where
  pub front : List ℕ
  pub back : List ℕ
  pub shown : CanFill nodes subtree.at subtree.node tree
  pub is : places ≡ front ++ (place_in subtree.before ++ (reading tree ++ (place_in subtree.behind ++ back)))
  pub start_is : subtree.start ≡ length front + length (place_in subtree.before)
  pub low : length front ≤ rank
  pub high : rank < subtree.start + size tree + length (place_in subtree.behind)

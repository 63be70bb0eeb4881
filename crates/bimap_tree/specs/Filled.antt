-- What a buffer contains after places were appended.
use Rattle.std.specs.Prelude.{◌≡◌, ℕ, ◌+◌, ◌≤◌, ◌<◌, ◌++◌, min, List, [], ◌∷◌, Option, Some, None, length, take, drop, slice_get}
use Rattle.bimap_base.specs.declared.cells.Node.{Node}
use Rattle.bimap_tree.specs.Tree.{Tree, Stands, IsBalanced}

-- The place as a list, which is empty if there is no place.
abbrev pub place_in : Option ℕ → List ℕ
place_in None = []
place_in (Some place) = place ∷ []

-- The nodes show a balanced tree at a place, and the place has this node.
pub record CanFill (nodes : List Node) (at : ℕ) (node : Node) (t : Tree) : Type 0 where
  pub tree : Stands nodes (Some at) t
  pub node_is : slice_get nodes at ≡ Some node
  pub balanced : IsBalanced t

-- After the first `filled` places of the old buffer come added ones. These are all of them, or enough that at least `wanted`
-- places are there.
pub record IsFilled (wanted filled : ℕ) (old added new : List ℕ) (count : ℕ) : Type 0 where
  pub enough : min wanted (filled + length added) ≤ count
  pub most : count ≤ filled + length added
  pub within : count < 128
  pub long : length new ≡ 128
  pub places : take count new ≡ take count (take filled old ++ added)

-- The buffer begins with `count` listed places, from the rank `from` on. The place at `rank` is among them.
pub record IsRow (places : List ℕ) (rank : ℕ) (buffer : List ℕ) (from count : ℕ) : Type 0 where
  pub low : from ≤ rank
  pub high : rank < from + count
  pub most : from + count ≤ length places
  pub within : count < 128
  pub same : take count buffer ≡ take count (drop from places)

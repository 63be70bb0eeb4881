-- The nodes that `Cells` stores, in narrow cells or in wide ones.
use Rattle.std.specs.Prelude.{◌≡◌, ℕ, zero, suc, ◌+◌, ◌-◌, ◌<◌, ◌≤◌, ◌/◌, ◌%◌, ◌^◌, Bool, true, false, cond, List, Option, Some, None}
use Rattle.bimap_base.specs.Digits.{most_height}
use Rattle.bimap_base.specs.declared.cells.Node.{Node}
use Rattle.bimap_base.specs.declared.cells.Cells.{Cells}
use Rattle.bimap_base.specs.declared.cells.Cells.TheVariants.{Narrow, Wide}
use Rattle.bimap_base.specs.declared.cells.NarrowCell.{NarrowCell}
use Rattle.bimap_base.specs.declared.cells.WideCell.{WideCell}

-- The child that a stored link leads to. The link 0 leads to no child. Any other link is the place of the child plus one.
abbrev pub link_of : ℕ → Option ℕ
link_of zero = None
link_of (suc place) = Some place

-- The node that a narrow cell stores. Its last word is the height times 2 ^ 26, plus the size.
abbrev pub narrow_node : NarrowCell → Node
narrow_node c = record { left = link_of c.left; right = link_of c.right; height = c.count / 2 ^ 26; size = c.count % 2 ^ 26 }

-- The node that a wide cell stores.
abbrev pub wide_node : WideCell → Node
wide_node c = record { left = link_of c.left; right = link_of c.right; height = c.height; size = c.size }

-- The nodes that `Cells` stores, whatever the width of their cells.
abbrev pub nodes_in : Cells → List Node
nodes_in (Narrow nodes) = nodes
nodes_in (Wide nodes) = nodes

-- A child, if there is one, is a place below this number.
abbrev pub IsThere : ℕ → Option ℕ → Type 0
IsThere n None = Unit {0}
IsThere n (Some place) = place < n

-- A node that a cell can store if there are `n` places. Its children are among these places. Its height is at most one more than
-- the bound for a balanced tree of `n` places. Its size is at most `n`.
pub record IsAmong (n : ℕ) (node : Node) : Type 0 where
  pub left : IsThere n node.left
  pub right : IsThere n node.right
  pub height : node.height ≤ most_height n + 1
  pub size : node.size ≤ n

-- The node with another child in the direction `direction`, which is right if it is true.
abbrev pub linked : Bool → Option ℕ → Node → Node
linked direction child n = record { left = cond direction n.left child; right = cond direction child n.right; height = n.height; size = n.size }

-- The node with one place more in its subtree if `grew` is true, or one less if not.
abbrev pub counted : Bool → Node → Node
counted grew n = record { left = n.left; right = n.right; height = n.height; size = cond grew (n.size + 1) (n.size - 1) }

-- The node with another child, and with one place more or less in its subtree.
abbrev pub recounted : Bool → Option ℕ → Bool → Node → Node
recounted direction child grew n = counted grew (linked direction child n)

-- The size in the node can change by one. If `grew` is true, the size is below `n` before. If not, it is above 0 before.
pub record CanCount (n : ℕ) (grew : Bool) (node : Node) : Type 0 where
  pub more : grew ≡ true → node.size < n
  pub less : grew ≡ false → 0 < node.size

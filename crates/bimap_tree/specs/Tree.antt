-- A finite tree of places, and when the nodes of an index show it.
use Rattle.std.specs.Prelude.{◌≡◌, ℕ, ◌+◌, ◌≤◌, max, Bool, true, false, cond, eqb, List, [], ◌∷◌, ◌++◌, Option, Some, None, slice_get}
use Rattle.bimap_base.specs.declared.cells.Node.{Node}

-- A finite tree of places.
pub data Tree : Type 0 where
  leaf : Tree
  fork : Tree → ℕ → Tree → Tree

-- The places from left to right.
abbrev pub reading : Tree → List ℕ
reading leaf = []
reading (fork l p r) = reading l ++ p ∷ reading r

-- The number of levels.
abbrev pub height : Tree → ℕ
height leaf = 0
height (fork l p r) = max (height l) (height r) + 1

-- The number of places.
abbrev pub size : Tree → ℕ
size leaf = 0
size (fork l p r) = size l + size r + 1

-- The place at the top.
abbrev pub root_of : Tree → Option ℕ
root_of leaf = None
root_of (fork l p r) = Some p

-- At each place the heights of the two subtrees differ by at most one.
abbrev pub IsBalanced : Tree → Type 0
IsBalanced leaf = Unit {0}
IsBalanced (fork l p r) = (height l ≤ height r + 1) × (height r ≤ height l + 1) × IsBalanced l × IsBalanced r

-- The node of a place with these subtrees.
abbrev pub node_of : Tree → Tree → Node
node_of l r = record { left = root_of l; right = root_of r; height = max (height l) (height r) + 1; size = size l + size r + 1 }

-- The node of each place in the tree stores its children's places, its height and its size.
abbrev pub Shows : List Node → Tree → Type 0
Shows nodes leaf = Unit {0}
Shows nodes (fork l p r) = (slice_get nodes p ≡ Some (node_of l r)) × Shows nodes l × Shows nodes r

-- 1 if the two places are equal, and 0 if not.
abbrev pub is_at : ℕ → ℕ → ℕ
is_at q p = cond (eqb q p) 1 0

-- How often a place occurs in the tree.
abbrev pub occurs : ℕ → Tree → ℕ
occurs q leaf = 0
occurs q (fork l p r) = occurs q l + is_at q p + occurs q r

-- No place occurs twice in the tree.
abbrev pub IsDistinctTree : Tree → Type 0
IsDistinctTree t = (q : ℕ) → occurs q t ≤ 1

-- The nodes show this tree, and its root is this root.
pub record Stands (nodes : List Node) (root : Option ℕ) (t : Tree) : Type 0 where
  pub root_is : root_of t ≡ root
  pub shown : Shows nodes t

-- A place with the subtree `near` in a direction, which is right if it is true, and the subtree `far` in the other direction.
abbrev pub branch : Bool → Tree → ℕ → Tree → Tree
branch true near p far = fork far p near
branch false near p far = fork near p far

-- The node of the place of such a `branch`.
abbrev pub node_on : Bool → Tree → Tree → Node
node_on true near far = node_of far near
node_on false near far = node_of near far

-- The child of a node in a direction.
abbrev pub near_of : Bool → Node → Option ℕ
near_of direction node = cond direction node.right node.left

-- The child of a node in the other direction.
abbrev pub far_of : Bool → Node → Option ℕ
far_of true node = node.left
far_of false node = node.right

-- What a contract sees of an ordered index.
use Rattle.std.specs.Prelude.{◌≡◌, ℕ, zero, suc, ◌<◌, ◌^◌, List, Option, Some, None, slice_get}
use Rattle.bimap_base.specs.declared.cells.Node.{Node}
use Rattle.bimap_tree.specs.Tree.{Tree, leaf, fork, Stands, IsBalanced, IsDistinctTree, size, reading}

-- The places in order, the nodes and the root.
pub record IndexView : Type 0 where
  pub places : List ℕ
  pub nodes : List Node
  pub root : Option ℕ

-- The nodes show a balanced tree of distinct places at the root.
pub record IsIndex (nodes : List Node) (root : Option ℕ) (t : Tree) : Type 0 where
  pub tree : Stands nodes root t
  pub balanced : IsBalanced t
  pub distinct : IsDistinctTree t

-- The nodes show a balanced tree at the root. Its places from left to right are the listed places.
pub record IsBalancedIndex (index : IndexView) (t : Tree) : Type 0 where
  pub tree : IsIndex index.nodes index.root t
  pub in_order : reading t ≡ index.places

-- The height that a node stores, or 0 without a node.
abbrev pub height_in : Option Node → ℕ
height_in None = 0
height_in (Some node) = node.height

-- The height that the node at a root stores, or 0 without a root.
abbrev pub height_at : List Node → Option ℕ → ℕ
height_at nodes None = 0
height_at nodes (Some place) = height_in (slice_get nodes place)

-- The left child that a node stores, if there is a node.
abbrev pub left_in : Option Node → Option ℕ
left_in None = None
left_in (Some node) = node.left

-- The right child that a node stores, if there is a node.
abbrev pub right_in : Option Node → Option ℕ
right_in None = None
right_in (Some node) = node.right

-- The tree that the nodes show at this root, down to this many levels.
abbrev pub tree_at : List Node → ℕ → Option ℕ → Tree
tree_at nodes zero root = leaf
tree_at nodes (suc levels) None = leaf
tree_at nodes (suc levels) (Some place) = fork (tree_at nodes levels (left_in (slice_get nodes place))) place (tree_at nodes levels (right_in (slice_get nodes place)))

-- The tree that the nodes show at this root.
unfoldable pub tree_in : List Node → Option ℕ → Tree
tree_in nodes root = tree_at nodes (height_at nodes root) root

-- What is true of the fields of every index: the nodes show a balanced tree at the root, with `len` places.
pub record IsWhole (nodes : List Node) (root : Option ℕ) (len : ℕ) : Type 0 where
  pub index : IsIndex nodes root (tree_in nodes root)
  pub counted : len ≡ size (tree_in nodes root)
  pub few : len < 2 ^ 64

-- What a contract sees of these fields of an index.
abbrev pub index_of : List Node → Option ℕ → IndexView
index_of nodes root = record { places = reading (tree_in nodes root); nodes = nodes; root = root }

-- A place with a subtree in one direction, and a subtree in the other.
use Rattle.std.proofs.Common.{◌≡◌, ℕ, ◌+◌, ◌≤◌, ◌<◌, max, Bool, true, false, not, List, Option, Some, length, refl, arith}
use Rattle.std.specs.Prelude.{slice_get, slice_set}
use Rattle.bimap_base.specs.declared.cells.Node.{Node}
use Rattle.bimap_tree.specs.Tree.{Tree, height, size, root_of, IsBalanced, Shows, is_at, occurs, Stands, branch, node_on, near_of, far_of}
use Rattle.bimap_base.specs.NodesInCells.{IsThere}
use Rattle.bimap_tree.specs.Link.{Measures}
use Rattle.bimap_tree.specs.declared.link.Subtree.{Subtree}
use Rattle.bimap_tree.proofs.Shown.{get-written, Shows-keeps, opened, there}

pub height-branch : (direction : Bool) (near : Tree) (p : ℕ) (far : Tree) → height (branch direction near p far) ≡ max (height near) (height far) + 1
height-branch true near p far = omega arith
height-branch false near p far = refl

pub size-branch : (direction : Bool) (near : Tree) (p : ℕ) (far : Tree) → size (branch direction near p far) ≡ size near + size far + 1
size-branch true near p far = omega arith
size-branch false near p far = refl

pub occurs-branch : (q : ℕ) (direction : Bool) (near : Tree) (p : ℕ) (far : Tree) → occurs q (branch direction near p far) ≡ occurs q near + is_at q p + occurs q far
occurs-branch q true near p far = omega arith
occurs-branch q false near p far = refl

pub root-branch : (direction : Bool) (near : Tree) (p : ℕ) (far : Tree) → root_of (branch direction near p far) ≡ Some p
root-branch true near p far = refl
root-branch false near p far = refl

pub branch-not : (direction : Bool) (near : Tree) (p : ℕ) (far : Tree) → branch (not direction) far p near ≡ branch direction near p far
branch-not true near p far = refl
branch-not false near p far = refl

pub height-node_on : (direction : Bool) (near far : Tree) → (node_on direction near far).height ≡ max (height near) (height far) + 1
height-node_on true near far = omega arith
height-node_on false near far = refl

pub size-node_on : (direction : Bool) (near far : Tree) → (node_on direction near far).size ≡ size near + size far + 1
size-node_on true near far = omega arith
size-node_on false near far = refl

pub near-node_on : (direction : Bool) (near far : Tree) → near_of direction (node_on direction near far) ≡ root_of near
near-node_on true near far = refl
near-node_on false near far = refl

pub far-node_on : (direction : Bool) (near far : Tree) → far_of direction (node_on direction near far) ≡ root_of far
far-node_on true near far = refl
far-node_on false near far = refl

-- A node is determined by its two children, its height and its size.
same_node : (n m : Node) → n.left ≡ m.left → n.right ≡ m.right → n.height ≡ m.height → n.size ≡ m.size → n ≡ m
same_node n m a b c d = let e : record { left = n.left; right = n.right; height = n.height; size = n.size } ≡ record { left = m.left; right = m.right; height = m.height; size = m.size } = cc in e

pub node_is : (direction : Bool) (n m : Node) → near_of direction n ≡ near_of direction m → far_of direction n ≡ far_of direction m → n.height ≡ m.height → n.size ≡ m.size → n ≡ m
node_is true n m a b c d = same_node n m b a c d
node_is false n m a b c d = same_node n m a b c d

-- What the nodes show of such a tree.
pub record Parts (ns : List Node) (direction : Bool) (near : Tree) (p : ℕ) (far : Tree) : Type 0 where
  pub node : slice_get ns p ≡ Some (node_on direction near far)
  pub near_shown : Shows ns near
  pub far_shown : Shows ns far

pub parts : (ns : List Node) (direction : Bool) (near : Tree) (p : ℕ) (far : Tree) → Shows ns (branch direction near p far) → Parts ns direction near p far
parts ns true near p far h = record { node = h.0; near_shown = h.2; far_shown = h.1 }
parts ns false near p far h = record { node = h.0; near_shown = h.1; far_shown = h.2 }

pub Shows-branch : (ns : List Node) (direction : Bool) (near : Tree) (p : ℕ) (far : Tree) → Parts ns direction near p far → Shows ns (branch direction near p far)
Shows-branch ns true near p far h = (h.node, h.far_shown, h.near_shown)
Shows-branch ns false near p far h = (h.node, h.near_shown, h.far_shown)

-- When such a tree is balanced.
pub record Level (near far : Tree) : Type 0 where
  pub near_level : height near ≤ height far + 1
  pub far_level : height far ≤ height near + 1
  pub near_balanced : IsBalanced near
  pub far_balanced : IsBalanced far

pub level : (direction : Bool) (near : Tree) (p : ℕ) (far : Tree) → IsBalanced (branch direction near p far) → Level near far
level true near p far h = record { near_level = h.1; far_level = h.0; near_balanced = h.3; far_balanced = h.2 }
level false near p far h = record { near_level = h.0; far_level = h.1; near_balanced = h.2; far_balanced = h.3 }

pub IsBalanced-branch : (direction : Bool) (near : Tree) (p : ℕ) (far : Tree) → Level near far → IsBalanced (branch direction near p far)
IsBalanced-branch true near p far h = (h.far_level, h.near_level, h.far_balanced, h.near_balanced)
IsBalanced-branch false near p far h = (h.near_level, h.far_level, h.near_balanced, h.far_balanced)

-- A place is linked above two trees.
pub Shows-linked : (ns ms : List Node) (direction : Bool) (near : Tree) (p : ℕ) (far : Tree) → ms ≡ slice_set ns p (node_on direction near far) → p < length ns → occurs p near ≡ 0 → occurs p far ≡ 0 → Shows ns near → Shows ns far → Shows ms (branch direction near p far)
Shows-linked ns ms direction near p far e within nn nf hn hf =
    Shows-branch ms direction near p far record {
      node = rw e (get-written ns p (node_on direction near far) within);
      near_shown = Shows-keeps ns ms near p (node_on direction near far) e nn hn;
      far_shown = Shows-keeps ns ms far p (node_on direction near far) e nf hf;
    }

-- A tree whose root is a place, with the node of that place.
pub record Opened (ns : List Node) (p : ℕ) (direction : Bool) (node : Node) (t near far : Tree) : Type 0 where
  pub is : t ≡ branch direction near p far
  pub near_stands : Stands ns (near_of direction node) near
  pub far_stands : Stands ns (far_of direction node) far

pub opened_on : (ns : List Node) (root : Option ℕ) (p : ℕ) (direction : Bool) (node : Node) (t : Tree) → Stands ns root t → root ≡ Some p → slice_get ns p ≡ Some node → (near : Tree) × (far : Tree) × Opened ns p direction node t near far
opened_on ns root p true node t h some e =
    let (l, r, o) = opened ns root p node t h some e in
    (r, l, record { is = o.is; near_stands = o.right_stands; far_stands = o.left_stands })
opened_on ns root p false node t h some e =
    let (l, r, o) = opened ns root p node t h some e in
    (l, r, record { is = o.is; near_stands = o.left_stands; far_stands = o.right_stands })

-- If the nodes show a tree, the root that a `Subtree` stores for it has a cell.
pub told_there : (ns : List Node) (told : Subtree) (t : Tree) → Measures told t → Shows ns t → IsThere (length ns) told.root
told_there ns told t m h = there ns told.root t record { root_is = m.root_is; shown = h }

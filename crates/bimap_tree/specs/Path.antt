-- A route down a tree, from its top to one of its subtrees, and what is done along it.
use Rattle.std.specs.Prelude.{◌≡◌, ℕ, suc, ◌+◌, ◌≤◌, ◌<◌, ◌^◌, max, Bool, true, false, not, List, [], ◌∷◌, ◌++◌, Option, Some, slice_get, length}
use Rattle.std.specs.declared.cmp.Ordering.{Ordering}
use Rattle.std.specs.declared.cmp.Ordering.TheVariants.{Less, Greater}
use Rattle.bimap_base.specs.declared.cells.Node.{Node}
use Rattle.bimap_tree.specs.Notes.{Notes}
use Rattle.bimap_tree.specs.Tree.{Tree, leaf, reading, height, size, occurs, is_at, root_of, IsBalanced, Shows, Stands, branch, near_of, far_of}

-- A route is `top`, which has no entry, or a route with one entry more below it. The entry is a direction, which is right if it
-- is true, a place, and the subtree of the place on the other side.
pub data Path : Type 0 where
  top : Path
  below : Path → Bool → ℕ → Tree → Path

-- The whole tree, if this subtree is at the end of the route.
abbrev pub plug : Path → Tree → Tree
plug top t = t
plug (below up direction p sister) t = plug up (branch direction t p sister)

-- The number of entries of the route.
abbrev pub steps : Path → ℕ
steps top = 0
steps (below up direction p sister) = suc (steps up)

-- The places before those of the subtree.
abbrev pub front : Path → List ℕ
front top = []
front (below up true p sister) = (front up ++ reading sister) ++ p ∷ []
front (below up false p sister) = front up

-- The places after those of the subtree.
abbrev pub back : Path → List ℕ
back top = []
back (below up true p sister) = back up
back (below up false p sister) = p ∷ reading sister ++ back up

-- How often a place occurs outside the subtree.
abbrev pub occurs_on : ℕ → Path → ℕ
occurs_on q top = 0
occurs_on q (below up direction p sister) = occurs_on q up + is_at q p + occurs q sister

-- The number of places outside the subtree.
abbrev pub size_on : Path → ℕ
size_on top = 0
size_on (below up direction p sister) = size_on up + size sister + 1

-- The noted entries at the depths of the route are its own. `kept` says how a place is stored.
abbrev pub Follows : (ℕ → ℕ) → (ℕ → ℕ × Bool) → Path → Type 0
Follows kept noted top = Unit {0}
Follows kept noted (below up direction p sister) = (noted (steps up) ≡ (kept p, direction)) × Follows kept noted up

-- Each entry of the route has this direction.
abbrev pub AllGo : Bool → Path → Type 0
AllGo direction top = Unit {0}
AllGo direction (below up turned p sister) = (turned ≡ direction) × AllGo direction up

-- How a place compares with a key that lies in this direction from it.
abbrev pub wanted : Bool → Ordering
wanted true = Less
wanted false = Greater

-- At each place of the route the key lies in the direction that the route takes.
abbrev pub Wants : (ℕ → Ordering) → Path → Type 0
Wants go top = Unit {0}
Wants go (below up direction p sister) = (go p ≡ wanted direction) × Wants go up

-- The node of a place stores the roots of the subtree `s` and of the sister. Its height and its size are those that the two give.
pub record Tells (direction : Bool) (node : Node) (s sister : Tree) : Type 0 where
  pub near_is : near_of direction node ≡ root_of s
  pub far_is : far_of direction node ≡ root_of sister
  pub height_is : node.height ≡ max (height s) (height sister) + 1
  pub size_is : node.size ≡ size s + size sister + 1

-- The nodes show the sisters. The nodes of the places on the route are those of a tree with the subtree `s` at the end.
abbrev pub Holds : List Node → Path → Tree → Type 0
Holds nodes top s = Unit {0}
Holds nodes (below up direction p sister) s = ((node : Node) × (slice_get nodes p ≡ Some node) × Tells direction node s sister) × Shows nodes sister × Holds nodes up (branch direction s p sister)

-- 1 if the argument is true, and 0 if it is false.
abbrev pub one_if : Bool → ℕ
one_if true = 1
one_if false = 0

-- The tree `u` has one place more than `s` if `grew` is true, and one place less if not. Its height is the same, or has changed
-- by one in that direction.
pub record Moves (grew : Bool) (s u : Tree) : Type 0 where
  pub sizes : size u + one_if (not grew) ≡ size s + one_if grew
  pub not_lower : height s ≤ height u + one_if (not grew)
  pub not_higher : height u ≤ height s + one_if grew

-- The noted route stores the places of these nodes in full.
abbrev pub KeepsWhole : List Node → Notes → Type 0
KeepsWhole nodes notes = (p : ℕ) → p < length nodes → notes.kept p ≡ p

-- At the end of the route the tree `u` has replaced `s`. The nodes above still fit `s`.
pub record CanRise (nodes : List Node) (notes : Notes) (path : Path) (grew : Bool) (s u : Tree) : Type 0 where
  pub follows : Follows notes.kept notes.step_at path
  pub whole : KeepsWhole nodes notes
  pub holds : Holds nodes path s
  pub shown : Shows nodes u
  pub distinct : (q : ℕ) → occurs_on q path + occurs q u ≤ 1
  pub steady : IsBalanced (plug path s)
  pub balanced : IsBalanced u
  pub fits : size_on path + size s + one_if grew < 2 ^ 64
  pub moves : Moves grew s u

-- A place of the route may be linked above the tree `u`, which has replaced `s`.
pub record CanRejoin (nodes : List Node) (at : ℕ) (direction grew : Bool) (node : Node) (sister s u : Tree) : Type 0 where
  pub node_is : slice_get nodes at ≡ Some node
  pub has_cell : at < length nodes
  pub told : Tells direction node s sister
  pub shown : Shows nodes u
  pub sister_shown : Shows nodes sister
  pub distinct : (q : ℕ) → occurs q u + is_at q at + occurs q sister ≤ 1
  pub steady : IsBalanced (branch direction s at sister)
  pub balanced : IsBalanced u
  pub fits : size s + size sister + 1 + one_if grew < 2 ^ 64
  pub moves : Moves grew s u

-- The tree `v` is the result after all nodes of the route were made to fit the tree `u`.
pub record IsRisen (old new : List Node) (path : Path) (u : Tree) (root : Option ℕ) (v : Tree) : Type 0 where
  pub tree : Stands new root v
  pub in_order : reading v ≡ front path ++ reading u ++ back path
  pub same_places : (q : ℕ) → occurs q v ≡ occurs_on q path + occurs q u
  pub balanced : IsBalanced v
  pub same_length : length new ≡ length old

-- The route `up` has the first entries of the route `path`. So it keeps to one direction if `path` does, and it leads down each
-- tree down which `path` leads.
pub record IsUpper (up path : Path) : Type 0 where
  pub alike : (direction : Bool) → AllGo direction path → AllGo direction up
  pub leads : (s : Tree) → (x : Tree) × (plug path s ≡ plug up x)

-- After a change along the route `path`, the nodes show a tree at this root. The first `count` noted entries lead down this tree,
-- to the subtree with the root `at`. They are the first entries of `path`.
pub record Begins (nodes : List Node) (root : Option ℕ) (notes : Notes) (path : Path) (count : ℕ) (at : Option ℕ) : Type 0 where
  pub up : Path
  pub rest : Tree
  pub tree : Stands nodes root (plug up rest)
  pub rest_is : root_of rest ≡ at
  pub count_is : count ≡ steps up
  pub follows : Follows notes.kept notes.step_at up
  pub upper : IsUpper up path

-- After a change along the route `path`, `tells` says how many first entries lead down the tree, and the root of the subtree there.
abbrev pub LeavesUpper : (ℕ → Option ℕ → Type 0) → List Node → Option ℕ → Notes → Path → Type 0
LeavesUpper tells nodes root notes path = (count : ℕ) × (at : Option ℕ) × tells count at × Begins nodes root notes path count at

-- A place may be inserted at the end of the route, where no place is.
pub record CanPut (nodes : List Node) (notes : Notes) (path : Path) (place : ℕ) : Type 0 where
  pub follows : Follows notes.kept notes.step_at path
  pub depth_is : notes.depth ≡ steps path
  pub deep : notes.depth ≤ 91
  pub shown : Shows nodes (plug path leaf)
  pub distinct : (q : ℕ) → occurs_on q path + is_at q place ≤ 1
  pub balanced : IsBalanced (plug path leaf)
  pub has_cell : place < length nodes
  pub fits : size_on path + 1 < 2 ^ 64

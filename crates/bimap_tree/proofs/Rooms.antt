-- A tree has at most as many places as there are nodes.
use Rattle.std.proofs.Common.{ℕ, ◌+◌, ◌≤◌, ◌<◌, List, length, arith}
use Rattle.bimap_base.specs.declared.cells.Node.{Node}
use Rattle.bimap_tree.specs.Tree.{Tree, leaf, fork, size, occurs, is_at, Shows}
use Rattle.bimap_tree.proofs.Distinct.{size_within}
use Rattle.bimap_tree.proofs.Shown.{by_ordering, in_tree}

-- A place and two trees without common places have at most as many places as there are nodes.
pub room_for : (ns : List Node) (near : Tree) (place : ℕ) (far : Tree) → Shows ns near → Shows ns far → place < length ns → ((q : ℕ) → occurs q near + is_at q place + occurs q far ≤ 1) → size near + size far + 1 ≤ length ns
room_for ns near place far hn hf within d =
    size_within (fork near place far) (length ns) d (λ q n. by_ordering q near place far n (in_tree ns near q hn) (in_tree ns far q hf) (λ e. rw e within))

-- A tree that does not contain some place with a node leaves space for it.
pub size_room : (ns : List Node) (t : Tree) (place : ℕ) → Shows ns t → place < length ns → ((q : ℕ) → occurs q t + is_at q place ≤ 1) → size t + 1 ≤ length ns
size_room ns t place h within d = omega (arith, room_for ns t place leaf h tt within (λ q. omega (arith, d q)))

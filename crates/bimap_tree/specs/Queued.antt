-- Places in a queue.
use Rattle.std.specs.Prelude.{ℕ, ◌<◌, List, Some, slice_index}
use Rattle.bimap_base.specs.declared.cells.Node.{Node}
use Rattle.bimap_tree.specs.Tree.{Tree, Stands}

-- The nodes show some tree at each of the first `count` places of the queue.
abbrev pub AreRooted : List Node → List ℕ → ℕ → Type 0
AreRooted nodes queue count = (k : ℕ) → k < count → (t : Tree) × Stands nodes (Some (slice_index queue k)) t

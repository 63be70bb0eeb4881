-- Searches in a tree.
use Rattle.std.specs.Prelude.{ℕ, ◌<◌, ◌^◌, List, Option}
use Rattle.std.specs.declared.cmp.Ordering.{Ordering}
use Rattle.bimap_base.specs.declared.cells.Node.{Node}
use Rattle.bimap_tree.specs.Tree.{Tree, Stands, occurs, size, reading}
use Rattle.bimap_tree.specs.Order.{IsSplit}

-- The tree may be searched. `live` says which places have a key. `go` says how each place compares with the key that is searched
-- for.
pub record CanSeek (nodes : List Node) (root : Option ℕ) (live : ℕ → Type 0) (go : ℕ → Ordering) (t : Tree) : Type 0 where
  pub tree : Stands nodes root t
  pub all_live : (q : ℕ) → 0 < occurs q t → live q
  pub in_order : IsSplit go (reading t)
  pub fits : size t < 2 ^ 64

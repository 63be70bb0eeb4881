-- What a contract sees of the threads of a hashed index. No public clause cites this module.
use Rattle.std.specs.Prelude.{ℕ, ◌*◌, ◌<◌, ◌≤◌, List, length, Option}
use Rattle.std.specs.Int.{IsPowerOfTwo}
use Rattle.bimap_chain.specs.Cells.{Cell, numbers_in, links_in}
use Rattle.bimap_chain.specs.Chains.{Numbers, IsThreaded}

-- The cell of each place, and the first place of each bucket's chain.
pub record Threading : Type 0 where
  pub cells : List Cell
  pub heads : List (Option ℕ)

-- The numbers under which the places are listed.
abbrev pub numbers_of : Threading → Numbers
numbers_of threads = numbers_in threads.cells

-- The links of the places.
abbrev pub links_of : Threading → List (Option ℕ)
links_of threads = links_in threads.cells

-- There are at least two heads for each cell. The number of heads is a power of two, or 0.
pub record IsSized (cells heads : ℕ) : Type 0 where
  pub enough : 2 * cells ≤ heads
  pub power : 0 < heads → IsPowerOfTwo heads

-- The heads suffice for the cells, and the links and heads form the chains.
pub record IsSound (threads : Threading) : Type 0 where
  pub sized : IsSized (length threads.cells) (length threads.heads)
  pub threaded : IsThreaded (numbers_of threads) (links_of threads) threads.heads

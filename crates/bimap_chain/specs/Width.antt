-- How a link is stored. No public clause cites this module.
use Rattle.std.specs.Prelude.{ℕ, Option}
use Rattle.bimap_base.specs.NodesInCells.{link_of}

-- The number of each link, and the number that marks a place as not listed.
pub record Width (L : Type 0) : Type 0 where
  pub number : L → ℕ
  pub free : ℕ

-- The place that a link leads to, or `None`.
abbrev pub target : {L : Type 0} → Width L → L → Option ℕ
target width link = link_of (width.number link)

-- Links of four bytes.
abbrev pub narrow : Width ℕ
narrow = record { number = λ n. n; free = 4294967295 }

-- Links of eight bytes.
abbrev pub wide : Width ℕ
wide = record { number = λ n. n; free = 18446744073709551615 }

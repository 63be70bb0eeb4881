-- What the cells and the heads of a hashed index store. No public clause cites this module.
use Rattle.std.specs.Prelude.{ℕ, List, map, Option, None, Some, ◌==◌, if◌then◌else◌}
use Rattle.bimap_chain.specs.Width.{Width, target}
use Rattle.bimap_chain.specs.declared.cells.ChainCell.{ChainCell}

-- What a cell says of its place: the number under which the place is listed, or none, and the next place of its chain.
pub record Cell : Type 0 where
  pub number : Option ℕ
  pub next : Option ℕ

-- The cell of a place that is not listed.
abbrev pub free_cell : Cell
free_cell = record { number = None; next = None }

-- The cell of a place that is listed under the number.
abbrev pub listed_cell : ℕ → Option ℕ → Cell
listed_cell number next = record { number = Some number; next = next }

-- The same cell with another next place.
abbrev pub cell_with_next : Cell → Option ℕ → Cell
cell_with_next c next = record { number = c.number; next = next }

-- The meaning of a stored cell, by the width of its link.
abbrev pub cell_of : {L : Type 0} → Width L → ChainCell L → Cell
cell_of width c = if width.number c.link == width.free then free_cell else listed_cell c.number (target width c.link)

-- The numbers of all cells, in order.
abbrev pub numbers_in : List Cell → List (Option ℕ)
numbers_in cells = map (λ c. c.number) cells

-- The links of all cells, in order.
abbrev pub links_in : List Cell → List (Option ℕ)
links_in cells = map (λ c. c.next) cells

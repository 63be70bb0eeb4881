-- A ring of cells. It contains cell 0 and the cell of each place of a list. The number of a place's cell is the place plus one.
use Rattle.std.specs.Prelude.{◌≡◌, ◌≢◌, ℕ, zero, suc, ◌+◌, ◌-◌, ◌<◌, List, [], ◌∷◌, length, map, slice_index_or, Option, Some, None}
use Rattle.std.specs.List.{All, AllPairs}
use Rattle.bimap_list.specs.declared.ring.Links.{Links}

-- What a contract sees of a list: its places in order, and the number of places that have cells.
pub record Listing : Type 0 where
  pub places : List ℕ
  pub cells : ℕ

-- What a read beyond the last cell gives.
abbrev pub unlinked : Links ℕ
unlinked = record { previous = 0; next = 0 }

-- The links of a cell as plain numbers, whatever the width of the stored ones.
abbrev pub links_in : {N : Type 0} → (N → ℕ) → Links N → Links ℕ
links_in number links = record { previous = number links.previous; next = number links.next }

-- The links of each cell as plain numbers.
abbrev pub told : {N : Type 0} → (N → ℕ) → List (Links N) → List (Links ℕ)
told number cells = map (links_in number) cells

-- The cell after a cell.
abbrev pub next_at : List (Links ℕ) → ℕ → ℕ
next_at cells cell = (slice_index_or cells cell unlinked).next

-- The cell before a cell.
abbrev pub previous_at : List (Links ℕ) → ℕ → ℕ
previous_at cells cell = (slice_index_or cells cell unlinked).previous

-- The cell `from` is linked to the cell `to`, and back.
abbrev pub Leads : List (Links ℕ) → ℕ → ℕ → Type 0
Leads cells from to = (next_at cells from ≡ to) × (previous_at cells to ≡ from)

-- The cells lead from the first cell through the cells of the places to the last cell.
abbrev pub LeadsThrough : List (Links ℕ) → ℕ → List ℕ → ℕ → Type 0
LeadsThrough cells from [] to = Leads cells from to
LeadsThrough cells from (p ∷ ps) to = Leads cells from (p + 1) × LeadsThrough cells (p + 1) ps to

-- The places of the cells from this cell on to cell 0, but at most `most` of them.
abbrev pub places_from : List (Links ℕ) → ℕ → ℕ → List ℕ
places_from cells zero cell = []
places_from cells (suc most) zero = []
places_from cells (suc most) (suc p) = p ∷ places_from cells most (next_at cells (suc p))

-- The places of all cells on the ring, from cell 0 until it comes back to cell 0.
unfoldable pub places_of : List (Links ℕ) → List ℕ
places_of cells = places_from cells (length cells) (next_at cells 0)

-- The list that a contract sees, made from the cells.
abbrev pub listing : List (Links ℕ) → Listing
listing cells = record { places = places_of cells; cells = length cells - 1 }

-- The cells lead from cell 0 through the cells of the places back to cell 0. The places are distinct, and each has a cell.
pub record IsRing (cells : List (Links ℕ)) (places : List ℕ) : Type 0 where
  pub linked : LeadsThrough cells 0 places 0
  pub distinct : AllPairs (λ a b. a ≢ b) places
  pub within : All (λ p. p + 1 < length cells) places

-- The cell `from` now leads to the cell `to`. All other links are as they were.
pub record IsJoined (old : List (Links ℕ)) (from to : ℕ) (new : List (Links ℕ)) : Type 0 where
  pub leads : Leads new from to
  pub next_kept : (cell : ℕ) → cell ≢ from → next_at new cell ≡ next_at old cell
  pub previous_kept : (cell : ℕ) → cell ≢ to → previous_at new cell ≡ previous_at old cell

-- The place of a cell. Cell 0 has no place.
abbrev pub place_of : ℕ → Option ℕ
place_of zero = None
place_of (suc place) = Some place

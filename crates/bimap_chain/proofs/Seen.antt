-- What cells say, before and after a write.
use Rattle.std.proofs.Common.{◌≡◌, ℕ, ◌+◌, ◌-◌, ◌<◌, ◌≤◌, List, ◌++◌, length, take, map, replicate, Option, None, Some, sym, ◌∙◌, ap, arith, get_or}
use Rattle.std.specs.Prelude.{slice_index_or, slice_set, IfSome, IsSome, is_some}
use Rattle.std.proofs.lemmas.List.{length-map, take_all, map-append, get_or-map, map-set}
use Rattle.bimap_base.proofs.NodesInCells.{map-written}
use Rattle.bimap_chain.specs.Cells.{Cell, free_cell, cell_with_next, numbers_in}
use Rattle.bimap_chain.proofs.Kept.{map-replicated, set_same}

module _ {X : Type 0} (f : X → Cell) (xs : List X) (cells : List Cell) (e : map f xs ≡ cells) where
  -- A list of cells says of a place what the stored cell of the place says.
  pub seen : (g : Cell → Option ℕ) (place : ℕ) (x d : X) → place < length (numbers_in cells) → x ≡ get_or xs place d → slice_index_or (map g cells) place None ≡ g (f x)
  seen g place x d h is =
      let within : place < length cells = omega (arith, h, length-map cells (λ c. c.number)) in
      get_or-map g cells place (f d) None within ∙ ap (λ z. g (get_or z place (f d))) (sym e) ∙ ap g (get_or-map f xs place d (f d) (omega (arith, within, length-map xs f, ap length e))) ∙ ap (λ z. g (f z)) (sym is)

  -- A listed place has a number.
  pub has_one : (place number : ℕ) (x d : X) → place < length (numbers_in cells) → x ≡ get_or xs place d → slice_index_or (numbers_in cells) place None ≡ Some number → IsSome (f x).number
  has_one place number x d h is held = ap is_some (sym (seen (λ c. c.number) place x d h is) ∙ held)

  -- What the cells say after one was overwritten.
  pub rewritten : (g : Cell → Option ℕ) (place : ℕ) (x : X) (c : Cell) → f x ≡ c → map g (map f (slice_set xs place x)) ≡ slice_set (map g cells) place (g c)
  rewritten g place x c is = ap (map g) (map-written f xs place x cells c e is) ∙ map-set g cells place c

  -- Another link of a listed place leaves the numbers as they were.
  pub numbers_left : (place : ℕ) (x d y : X) (next : Option ℕ) → place < length (numbers_in cells) → x ≡ get_or xs place d → f y ≡ cell_with_next (f x) next → numbers_in (map f (slice_set xs place y)) ≡ numbers_in cells
  numbers_left place x d y next h is r = rewritten (λ c. c.number) place y (cell_with_next (f x) next) r ∙ set_same (numbers_in cells) place (f x).number None (seen (λ c. c.number) place x d h is)

  -- The link to a place is less than the greatest number.
  pub fits : (free : ℕ) (o : Option ℕ) → length xs < free → IfSome o (λ p. p < length (numbers_in cells)) → IfSome o (λ p. p + 1 < free)
  fits free None few h = tt
  fits free (Some p) few h = omega (arith, few, h, length-map cells (λ c. c.number), length-map xs f, ap length e)

  -- Free cells are added.
  pub resized : (ys : List X) (to more : ℕ) (x : X) → length xs ≤ to → more ≡ to - length xs → ys ≡ take to xs ++ replicate more x → f x ≡ free_cell → map f ys ≡ cells ++ replicate (to - length cells) free_cell
  resized ys to more x h m r is =
      let k : more ≡ to - length cells = omega (arith, m, length-map xs f, ap length e) in
      ap (map f) (r ∙ ap (λ z. z ++ replicate more x) (take_all to xs h)) ∙ map-append f xs (replicate more x) ∙ ap (λ z. z ++ map f (replicate more x)) e
      ∙ ap (λ z. cells ++ z) (map-replicated f more x ∙ ap (replicate more) is ∙ ap (λ k. replicate k free_cell) k)

-- Free cells that are added list no place.
pub more_numbers : (cells : List Cell) (to : ℕ) → numbers_in (cells ++ replicate (to - length cells) free_cell) ≡ numbers_in cells ++ replicate (to - length (numbers_in cells)) None
more_numbers cells to =
    let k : to - length cells ≡ to - length (numbers_in cells) = omega (arith, length-map cells (λ c. c.number)) in
    map-append (λ c. c.number) cells (replicate (to - length cells) free_cell)
    ∙ ap (λ z. numbers_in cells ++ z) (map-replicated (λ c. c.number) (to - length cells) free_cell ∙ ap (λ k. replicate k None) k)

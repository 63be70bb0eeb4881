-- The pairs of a store move to the first places of another store.
use Rattle.std.proofs.Common.{◌≡◌, ℕ, zero, suc, ◌+◌, ◌<◌, ◌≤◌, ◌-◌, List, [], ◌∷◌, ◌++◌, length, map, Option, None, Some, replicate, ap, ◌∙◌, sym, refl, arith, length-append, get_or, is_some}
use Rattle.std.specs.Prelude.{count_by, cond}
use Rattle.std.proofs.lemmas.List.Recursion.{is_count_by}
use Rattle.std.proofs.lemmas.List.{append-nil, map-append, length-map, length-replicate}
use Rattle.bimap_base.specs.Places.{pairs_in, compacted}
use Rattle.bimap_base.specs.declared.pairs.Slot.{Slot}
use Rattle.bimap_base.specs.declared.pairs.Slot.TheVariants.{Free, Held}
use Rattle.bimap_base.specs.FreeSlots.{pair_of, IsSound}

module _ {P : Type 0} where
  pub pairs_in-append : (xs ys : List (Option P)) → pairs_in (xs ++ ys) ≡ pairs_in xs ++ pairs_in ys
  pairs_in-append [] ys = refl
  pairs_in-append (None ∷ xs) ys = pairs_in-append xs ys
  pairs_in-append (Some p ∷ xs) ys = ap (λ z. p ∷ z) (pairs_in-append xs ys)

  pub counted_in : (slots : List (Option P)) → count_by is_some slots ≡ length (pairs_in slots)
  counted_in slots = sym (is_count_by (λ s. length (pairs_in s)) is_some refl step slots)
    where
      step : (x : Option P) (xs : List (Option P)) → length (pairs_in (x ∷ xs)) ≡ cond (is_some x) (1 + length (pairs_in xs)) (length (pairs_in xs))
      step None xs = refl
      step (Some p) xs = omega arith

  pairs_of_some : (pairs : List P) → pairs_in (map Some pairs) ≡ pairs
  pairs_of_some [] = refl
  pairs_of_some (p ∷ pairs) = ap (λ z. p ∷ z) (pairs_of_some pairs)

  all_some : (pairs : List P) → count_by is_some (map Some pairs) ≡ length pairs
  all_some pairs = counted_in (map Some pairs) ∙ ap length (pairs_of_some pairs)

  -- Two lists of the same length with the same item at each index are equal.
  same_read : (xs ys : List (Option P)) → length xs ≡ length ys → ((k : ℕ) → get_or xs k None ≡ get_or ys k None) → xs ≡ ys
  same_read [] [] l h = refl
  same_read [] (y ∷ ys) l h = absurd (omega arith)
  same_read (x ∷ xs) [] l h = absurd (omega arith)
  same_read (x ∷ xs) (y ∷ ys) l h = let e = h 0 in let r = same_read xs ys (omega arith) (λ k. h (suc k)) in ap (λ z. z ∷ xs) e ∙ ap (λ z. y ∷ z) r

  -- Free places beyond the end change nothing that is read.
  read_filled : (xs : List (Option P)) (n k : ℕ) → get_or (xs ++ replicate n None) k None ≡ get_or xs k None
  read_filled [] zero k = refl
  read_filled [] (suc n) zero = refl
  read_filled [] (suc n) (suc k) = read_filled [] n k
  read_filled (x ∷ xs) n zero = refl
  read_filled (x ∷ xs) n (suc k) = read_filled xs n k

  pub length-compacted : (pairs : List P) (to : ℕ) → length pairs ≤ to → length (compacted pairs to) ≡ to
  length-compacted pairs to fits = omega (arith, fits, length-append (map Some pairs) (replicate (to - length pairs) None), length-map pairs Some, length-replicate {A = Option P} (to - length pairs) None)

  pub all_compacted : (slots : List (Option P)) (pairs : List P) (to : ℕ) → length pairs ≤ to → length slots ≡ to → ((k : ℕ) → get_or slots k None ≡ get_or (map Some pairs) k None) → slots ≡ compacted pairs to
  all_compacted slots pairs to fits long h =
      same_read slots (compacted pairs to) (omega (arith, length-append (map Some pairs) (replicate (to - length pairs) None), length-map pairs Some, length-replicate {A = Option P} (to - length pairs) None))
      (λ k. h k ∙ sym (read_filled (map Some pairs) (to - length pairs) k))

module _ {L R : Type 0} where
  -- One more slot with a pair was moved.
  pub moved_more : (kept kept' seen : List (Slot L R)) (l : L) (r : R) → map pair_of kept ≡ map Some (pairs_in (map pair_of seen)) → kept' ≡ kept ++ Held l r ∷ []
      → map pair_of kept' ≡ map Some (pairs_in (map pair_of (seen ++ Held l r ∷ [])))
  moved_more kept kept' seen l r h e =
      ap (map pair_of) e ∙ map-append pair_of kept (Held l r ∷ []) ∙ ap (λ z. z ++ Some (l, r) ∷ []) h
      ∙ sym (ap (λ z. map Some (pairs_in z)) (map-append pair_of seen (Held l r ∷ [])) ∙ ap (map Some) (pairs_in-append (map pair_of seen) (Some (l, r) ∷ []))
      ∙ map-append Some (pairs_in (map pair_of seen)) ((l, r) ∷ []))

  -- One more free slot was passed.
  pub passed_free : (kept : List (Option (L × R))) (seen : List (Slot L R)) (next : ℕ) → kept ≡ map Some (pairs_in (map pair_of seen)) → kept ≡ map Some (pairs_in (map pair_of (seen ++ Free next ∷ [])))
  passed_free kept seen next h =
      h ∙ ap (map Some) (sym (ap pairs_in (map-append pair_of seen (Free next ∷ [])) ∙ pairs_in-append (map pair_of seen) (None ∷ []) ∙ append-nil (pairs_in (map pair_of seen))))

  -- A slot with a pair that is still to come leaves space for it.
  pub room_left : (all seen rest kept : List (Slot L R)) (l : L) (r : R) (to : ℕ) → seen ++ Held l r ∷ rest ≡ all → map pair_of kept ≡ map Some (pairs_in (map pair_of seen)) → count_by is_some (map pair_of all) ≤ to → length kept < to
  room_left all seen rest kept l r to e h fits =
      let i = ap (λ z. length (pairs_in (map pair_of z))) e in
      let j = ap (λ z. length (pairs_in z)) (map-append pair_of seen (Held l r ∷ rest)) in
      let k = ap length (pairs_in-append (map pair_of seen) (Some (l, r) ∷ map pair_of rest)) in
      omega (arith, i, j, k, length-append (pairs_in (map pair_of seen)) ((l, r) ∷ pairs_in (map pair_of rest)), ap length h, length-map kept pair_of, length-map (pairs_in (map pair_of seen)) Some, counted_in (map pair_of all))

  -- None of the moved slots is free.
  pub all_held : (kept : List (Slot L R)) (all : List (Option (L × R))) (len next : ℕ) → map pair_of kept ≡ map Some (pairs_in all) → len ≡ count_by is_some all → next ≡ length kept → IsSound kept len next
  all_held kept all len next h e full = record {
    counted = e ∙ counted_in all ∙ sym (ap (count_by is_some) h ∙ all_some (pairs_in all));
    free = 0;
    total = omega (arith, e, counted_in all, ap length h, length-map kept pair_of, length-map (pairs_in all) Some);
    linked = full;
  }

-- At the end of the slots all of them were seen.
pub none_left : {X : Type 0} (seen rest all : List X) → seen ++ rest ≡ all → length rest ≡ 0 → seen ≡ all
none_left seen [] all e h = sym (append-nil seen) ∙ e
none_left seen (x ∷ rest) all e h = absurd (omega arith)

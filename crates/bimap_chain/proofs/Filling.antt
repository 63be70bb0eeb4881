-- The numbers move to the first of new cells, in the order of their places.
use Rattle.std.proofs.Common.{◌≡◌, ℕ, suc, ◌+◌, ◌-◌, ◌<◌, ◌≤◌, List, [], ◌∷◌, ◌++◌, length, map, take, drop, get_or, Option, None, Some, replicate, sym, ap, ◌∙◌, arith, length-append, append_assoc}
use Rattle.std.specs.Prelude.{slice_set}
use Rattle.std.proofs.lemmas.List.{append-nil, map-append, length-map, take-append-drop, take_more, length-take-le}
use Rattle.std.proofs.Math.Seq.{set-append_seam}
use Rattle.bimap_base.specs.Places.{pairs_in, compacted}
use Rattle.bimap_base.proofs.Compaction.{pairs_in-append}
use Rattle.bimap_chain.specs.Chains.{Numbers, number_at}

module _ (numbers : Numbers) (place : ℕ) (inside : place < length numbers) where
  one_more : (o : Option ℕ) → number_at numbers place ≡ o → pairs_in (take (place + 1) numbers) ≡ pairs_in (take place numbers) ++ pairs_in (o ∷ [])
  one_more o is = ap pairs_in (take_more numbers place None inside) ∙ pairs_in-append (take place numbers) (get_or numbers place None ∷ []) ∙ ap (λ z. pairs_in (take place numbers) ++ pairs_in (z ∷ [])) is

  -- One more place was seen, and it is listed.
  pub more_seen : (n : ℕ) → number_at numbers place ≡ Some n → pairs_in (take (place + 1) numbers) ≡ pairs_in (take place numbers) ++ n ∷ []
  more_seen n is = one_more (Some n) is

  -- One more place was seen, and it is not listed.
  pub none_seen : number_at numbers place ≡ None → pairs_in (take (place + 1) numbers) ≡ pairs_in (take place numbers)
  none_seen is = one_more None is ∙ append-nil (pairs_in (take place numbers))

  -- A listed place that is still to come leaves space for it.
  pub room_left : (to n : ℕ) → number_at numbers place ≡ Some n → length (pairs_in numbers) ≤ to → length (pairs_in (take place numbers)) < to
  room_left to n is fits =
      omega (arith, fits, ap (λ z. length (pairs_in z)) (take-append-drop (place + 1) numbers), ap length (pairs_in-append (take (place + 1) numbers) (drop (place + 1) numbers)), length-append (pairs_in (take (place + 1) numbers)) (pairs_in (drop (place + 1) numbers)), ap length (more_seen n is), length-append (pairs_in (take place numbers)) (n ∷ []))

  -- An item is written at the first free place.
  seam : (to : ℕ) (o : Option ℕ) → length numbers ≤ to → slice_set (take place numbers ++ replicate (to - place) None) place o ≡ take place numbers ++ o ∷ replicate (to - (place + 1)) None
  seam to o most =
      let done : Numbers = take place numbers in
      let rest : Numbers = replicate (to - (place + 1)) None in
      let e : to - place ≡ suc (to - (place + 1)) = omega arith in
      let long : length done ≡ place = length-take-le place numbers (omega arith) in
      ap (λ k. slice_set (done ++ replicate k None) place o) e ∙ ap (λ k. slice_set (done ++ None ∷ rest) k o) (sym long) ∙ set-append_seam done None rest o

  -- One more number is written at its own place.
  pub copied_more : (to : ℕ) (o : Option ℕ) → number_at numbers place ≡ o → length numbers ≤ to → slice_set (take place numbers ++ replicate (to - place) None) place o ≡ take (place + 1) numbers ++ replicate (to - (place + 1)) None
  copied_more to o is most =
      seam to o most ∙ sym (append_assoc (take place numbers) (o ∷ []) (replicate (to - (place + 1)) None))
      ∙ ap (λ z. z ++ replicate (to - (place + 1)) None) (sym (take_more numbers place None inside ∙ ap (λ z. take place numbers ++ z ∷ []) is))

  -- A free place is written as free.
  pub left_free : (to : ℕ) → length numbers ≤ to → slice_set (take place numbers ++ replicate (to - place) None) place None ≡ take place numbers ++ replicate (to - place) None
  left_free to most = let e : to - place ≡ suc (to - (place + 1)) = omega arith in seam to None most ∙ ap (λ k. take place numbers ++ replicate k None) (sym e)

module _ (ns : List ℕ) (to : ℕ) (less : length ns < to) where
  abbrev rest : ℕ
  rest = to - (length ns + 1)

  split : compacted ns to ≡ map Some ns ++ None ∷ replicate rest None
  split = let e : to - length ns ≡ suc (to - (length ns + 1)) = omega arith in ap (λ k. map Some ns ++ replicate k None) e

  -- One more number fills the first free cell.
  pub filled_more : (n : ℕ) → slice_set (compacted ns to) (length ns) (Some n) ≡ compacted (ns ++ n ∷ []) to
  filled_more n =
      ap (λ z. slice_set z (length ns) (Some n)) split ∙ ap (λ k. slice_set (map Some ns ++ None ∷ replicate rest None) k (Some n)) (sym (length-map ns Some)) ∙ set-append_seam (map Some ns) None (replicate rest None) (Some n)
      ∙ sym (append_assoc (map Some ns) (Some n ∷ []) (replicate rest None)) ∙ ap (λ z. z ++ replicate rest None) (sym (map-append Some ns (n ∷ []))) ∙ ap (λ k. map Some (ns ++ n ∷ []) ++ replicate k None) by
    where
      by : rest ≡ to - length (ns ++ n ∷ [])
      by = omega (arith, length-append ns (n ∷ []))

-- Pairs as the items of an array.
use Rattle.std.proofs.Common.{◌≡◌, ℕ, suc, ◌+◌, ◌<◌, ◌≤◌, List, [], ◌∷◌, ◌++◌, length, map, take, drop, Option, Some, refl, ap, sym, subst, ◌∙◌, arith, slice_index_or}
use Rattle.std.specs.List.{AllZip}
use Rattle.std.proofs.lemmas.List.{map-append, take-append-drop}
use Rattle.std.proofs.lemmas.Slice.Zip.{AllZip-long}
use Rattle.std.proofs.Math.Seq.{take-suc}
use Rattle.serde_json.specs.Data.{Data, Items, no_items, item}
use Rattle.serde_json.specs.Find.{as_array}
use Rattle.serde_json.specs.View.{view, items_of, items_view}
use Rattle.serde_json.specs.declared.value.Value.{Value}
use Rattle.bimap.specs.JsonPairs.{ReadsAsPair, StopsAtItem}

abbrev count : Items → ℕ
count no_items = 0
count (item d ds) = suc (count ds)

counted : (vs : List Value) → count (items_view vs) ≡ length vs
counted [] = refl
counted (v ∷ vs) = ap suc (counted vs)

-- If values are seen as two items, there are two values.
pub are_two : (vs : List Value) (first second : Data) → items_view vs ≡ item first (item second no_items) → length vs ≡ 2
are_two vs first second is = sym (counted vs) ∙ ap count is

-- One more item on both lists.
zip_push : {A B : Type 0} (P : A → B → Type 0) (xs : List A) (ys : List B) (x : A) (y : B) → AllZip P xs ys → P x y → AllZip P (xs ++ x ∷ []) (ys ++ y ∷ [])
zip_push P [] [] x y all p = (p, tt)
zip_push P [] (b ∷ ys) x y all p = absurd all
zip_push P (a ∷ xs) [] x y all p = absurd all
zip_push P (a ∷ xs) (b ∷ ys) x y all p = (all.0, zip_push P xs ys x y all.1 p)

module _ {L R : Type 0} (reads_left : Data → L → Type 0) (reads : Data → R → Type 0) (vs : List Value) (i : ℕ) (v : Value) (inside : i < length vs) (is : v ≡ slice_index_or vs i v) (pairs : List (L × R)) (read : AllZip (ReadsAsPair reads_left reads) (map view (take i vs)) pairs) where
  each : (xs : List Value) → map view ((xs ++ v ∷ []) ++ drop (suc i) vs) ≡ map view xs ++ view v ∷ map view (drop (suc i) vs)
  each [] = refl
  each (x ∷ xs) = ap (λ ds. view x ∷ ds) (each xs)

  up_to : take (suc i) vs ≡ take i vs ++ v ∷ []
  up_to = take-suc vs i v inside ∙ ap (λ x. take i vs ++ x ∷ []) (sym is)

  -- One more item was read.
  pub read_more : (p : L × R) → ReadsAsPair reads_left reads (view v) p → AllZip (ReadsAsPair reads_left reads) (map view (take (suc i) vs)) (pairs ++ p ∷ [])
  read_more p one =
      subst (λ xs. AllZip (ReadsAsPair reads_left reads) xs (pairs ++ p ∷ [])) (sym (ap (map view) up_to ∙ map-append view (take i vs) (v ∷ [])))
      (zip_push (ReadsAsPair reads_left reads) (map view (take i vs)) pairs (view v) p read one)

  -- The item stops the reading.
  pub stops_here : (value : Data) (at : ℕ) (P : Data → Type 0) → Some (items_view vs) ≡ as_array value → at ≡ length pairs → P (view v) → StopsAtItem reads_left reads value at P
  stops_here value at P is_array place stops =
      record {
        before = map view (take i vs);
        next = view v;
        rest = map view (drop (suc i) vs);
        is_array = sym is_array ∙ ap (λ xs. Some (items_of xs)) split;
        place = sym (AllZip-long (ReadsAsPair reads_left reads) (map view (take i vs)) pairs read) ∙ sym place;
        pairs = pairs;
        read = read;
        stops = stops;
      }
    where
      split : map view vs ≡ map view (take i vs) ++ view v ∷ map view (drop (suc i) vs)
      split = ap (map view) (sym (take-append-drop (suc i) vs) ∙ ap (λ xs. xs ++ drop (suc i) vs) up_to) ∙ each (take i vs)

-- One more pair was written.
pub written_more : {L R : Type 0} (of : L × R → Data) (vs : List Value) (ps more : List (L × R)) (v : Value) (p : L × R) → map view vs ≡ map of ps → view v ≡ of p → more ≡ ps ++ p ∷ [] → map view (vs ++ v ∷ []) ≡ map of more
written_more of vs ps more v p are is longer = map-append view vs (v ∷ []) ∙ (λ i. are i ++ is i ∷ []) ∙ sym (ap (map of) longer ∙ map-append of ps (p ∷ []))

-- Nodes in their stored form.
use Rattle.std.proofs.Common.{◌≡◌, Some, ℕ, zero, suc, ◌+◌, ◌≤◌, ◌<◌, ◌^◌, List, [], ◌∷◌, ◌++◌, length, take, map, get_or, refl, sym, ◌∙◌, ap, arith}
use Rattle.std.specs.Prelude.{slice_get, slice_set, option_map}
use Rattle.std.proofs.lemmas.List.{length-map, map-set, take_all}
use Rattle.std.proofs.lemmas.Option.{slice_get-map, slice_get_within, slice_get_read}
use Rattle.bimap_base.specs.Digits.{most_height}
use Rattle.bimap_base.proofs.Digits.{bits-least}

-- A height that is possible for few enough places fits into a narrow cell.
pub low_enough : (places : ℕ) → places < 2 ^ 26 → (height : ℕ) → height ≤ most_height places + 1 → height < 64
low_enough places few height low = omega (arith, bits-least places 26 few)

-- To append items changes no earlier item.
pub get-front : {A : Type 0} (xs ys : List A) (k : ℕ) → k < length xs → slice_get (xs ++ ys) k ≡ slice_get xs k
get-front [] ys k h = absurd (omega arith)
get-front (x ∷ xs) ys zero h = refl
get-front (x ∷ xs) ys (suc k) h = get-front xs ys k (omega arith)

-- A resize to at least the old length changes no earlier item.
pub get-resized : {A : Type 0} (xs ys all : List A) (n : ℕ) → length xs ≤ n → all ≡ take n xs ++ ys → (k : ℕ) → k < length xs → slice_get all k ≡ slice_get xs k
get-resized xs ys all n le e k h =
    ap (λ z. slice_get z k) (e ∙ ap (λ z. z ++ ys) (take_all n xs le)) ∙ get-front xs ys k h

-- Cells that agree up to some place store nodes that agree up to it.
pub get-mapped : {A B : Type 0} (f : A → B) (xs all : List A) → ((k : ℕ) → k < length xs → slice_get all k ≡ slice_get xs k) → (ns : List B) → map f xs ≡ ns → (k : ℕ) → k < length ns → slice_get (map f all) k ≡ slice_get ns k
get-mapped f xs all same ns e k h =
    slice_get-map f all k
    ∙ ap (λ z. option_map f z) (same k (omega (arith, length-map xs f, ap length e)))
    ∙ sym (slice_get-map f xs k)
    ∙ ap (λ z. slice_get z k) e

-- A node is overwritten.
pub map-written : {A B : Type 0} (f : A → B) (xs : List A) (i : ℕ) (x : A) (ns : List B) (n : B) → map f xs ≡ ns → f x ≡ n → map f (slice_set xs i x) ≡ slice_set ns i n
map-written f xs i x ns n e d = map-set f xs i x ∙ ap (λ z. slice_set z i (f x)) e ∙ ap (λ z. slice_set ns i z) d

-- The node that a cell stores is the node of its place.
pub read-mapped : {A B : Type 0} (f : A → B) (xs : List A) (k : ℕ) (x : A) (ns : List B) (n : B) → x ≡ get_or xs k x → map f xs ≡ ns → slice_get ns k ≡ Some n → f x ≡ n
read-mapped f xs k x ns n read e told =
    let within : k < length xs = omega (arith, slice_get_within ns k n told, ap length e, length-map xs f) in
    let both : Some (f x) ≡ Some n =
    ap (λ z. option_map f z) (sym (slice_get_read xs (length xs) k x refl within read)) ∙ sym (slice_get-map f xs k) ∙ ap (λ z. slice_get z k) e ∙ told in
    cc

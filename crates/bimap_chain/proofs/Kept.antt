-- Lists of stored items.
use Rattle.std.proofs.Common.{◌≡◌, ℕ, zero, suc, ◌-◌, ◌%◌, ◌<◌, List, ◌∷◌, length, map, replicate, refl, sym, ◌∙◌, ap, arith, bit_and}
use Rattle.std.specs.Prelude.{slice_index_or, slice_set}
use Rattle.std.specs.Int.{IsPowerOfTwo}
use Rattle.std.proofs.lemmas.List.{length-map, set-get_or}
use Rattle.std.proofs.lemmas.Nat.{and_mask}

-- A mask by a power of two less one gives the remainder.
pub masked : (h n m : ℕ) → 0 < n → (0 < n → IsPowerOfTwo n) → m ≡ n - 1 → bit_and h m ≡ h % n
masked h n m some power e =
    let p = power some in
    ap (bit_and h) (e ∙ ap (λ k. k - 1) p.1) ∙ and_mask h p.0 ∙ ap (λ k. h % k) (sym p.1)

pub map-replicated : {A B : Type 0} (f : A → B) (n : ℕ) (a : A) → map f (replicate n a) ≡ replicate n (f a)
map-replicated f zero a = refl
map-replicated f (suc n) a = ap (λ z. f a ∷ z) (map-replicated f n a)

-- A list of `n` stored copies of one item means `n` copies of what the item means.
pub as_many : {A B C : Type 0} (f : A → B) (g : C → B) (xs : List C) (n : ℕ) (a : A) (b : B) (bs : List B) → map g xs ≡ bs → n ≡ length xs → f a ≡ b → map f (replicate n a) ≡ replicate (length bs) b
as_many f g xs n a b bs e l is =
    let k : n ≡ length bs = omega (arith, l, length-map xs g, ap length e) in
    map-replicated f n a ∙ ap (replicate n) is ∙ ap (λ k. replicate k b) k

-- A list of copies has the item at each index, and also past the end if the item is the default.
pub everywhere : {A : Type 0} (n k : ℕ) (a : A) → slice_index_or (replicate n a) k a ≡ a
everywhere zero k a = refl
everywhere (suc n) zero a = refl
everywhere (suc n) (suc k) a = everywhere n k a

-- To write an item where it already is changes nothing.
pub set_same : {A : Type 0} (xs : List A) (i : ℕ) (x d : A) → slice_index_or xs i d ≡ x → slice_set xs i x ≡ xs
set_same xs i x d e = ap (slice_set xs i) (sym e) ∙ set-get_or xs i d

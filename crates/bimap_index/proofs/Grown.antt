-- A hashed index that got more cells.
use Rattle.std.proofs.Common.{◌≡◌, ℕ, zero, suc, ◌-◌, ◌++◌, List, [], ◌∷◌, length, replicate, Option, Some, None, refl, ap, ◌∙◌}
use Rattle.std.specs.Prelude.{Result, Ok, Err, OnOk, OnErr}
use Rattle.bimap_index.specs.ByHash.{places_from}

-- Added cells list nothing.
places_filled : (numbers : List (Option ℕ)) (first k : ℕ) → places_from first (numbers ++ replicate k None) ≡ places_from first numbers
places_filled [] first zero = refl
places_filled [] first (suc k) = places_filled [] (suc first) k
places_filled (None ∷ numbers) first k = places_filled numbers (suc first) k
places_filled (Some n ∷ numbers) first k = ap (λ z. first ∷ z) (places_filled numbers (suc first) k)

pub places_grown : {T E : Type 0} (numbers new : List (Option ℕ)) (to : ℕ) (r : Result T E) → OnOk r (new ≡ numbers ++ replicate (to - length numbers) None) → OnErr r (new ≡ numbers) → places_from 0 new ≡ places_from 0 numbers
places_grown numbers new to (Ok x) ok err = ap (places_from 0) ok ∙ places_filled numbers 0 (to - length numbers)
places_grown numbers new to (Err x) ok err = ap (places_from 0) err

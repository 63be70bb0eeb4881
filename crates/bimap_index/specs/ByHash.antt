-- When a hashed index lists a side.
use Rattle.std.specs.Prelude.{◌≡◌, ◌≢◌, ℕ, suc, Bool, false, List, [], ◌∷◌, Option, None, Some, option_map}
use Rattle.bimap_chain.specs.Chains.{number_at}

-- The index lists exactly the places that have a key.
-- Each place is listed under the hash number of its key.
-- No two keys are equal.
pub record ListsByHash {K : Type 0} (same : K → K → Bool) (number : K → ℕ) (numbers : List (Option ℕ)) (key_at : ℕ → Option K) : Type 0 where
  pub numbered : (place : ℕ) → number_at numbers place ≡ option_map number (key_at place)
  pub apart : (a b : ℕ) (k l : K) → a ≢ b → key_at a ≡ Some k → key_at b ≡ Some l → same k l ≡ false

-- The places at which there is something, in ascending order. The list of slots begins at the place `first`.
abbrev pub places_from : {P : Type 0} → ℕ → List (Option P) → List ℕ
places_from first [] = []
places_from first (None ∷ slots) = places_from (suc first) slots
places_from first (Some x ∷ slots) = first ∷ places_from (suc first) slots

-- Copies of an index.
use Rattle.std.proofs.Common.{◌≡◌, ℕ, ◌<◌, Bool, List, Option, is_some, ap, sym, ◌∙◌, arith, refl, None, Some}
use Rattle.std.specs.Option.{option_map}
use Rattle.bimap_chain.specs.Chains.{number_at}
use Rattle.bimap_index.specs.ByHash.{ListsByHash, places_from}
use Rattle.bimap_index.specs.HashLaws.{ascends_from, hash_listed}
use Rattle.bimap_index.specs.SameLists.{same_ascending}

module _ {K : Type 0} (same : K → K → Bool) where
  -- A place is listed if it has a key.
  pub listed_with_key : (number : K → ℕ) (numbers : List (Option ℕ)) (f : ℕ → Option K) → ListsByHash same number numbers f → (place : ℕ) → is_some (f place) ≡ is_some (number_at numbers place)
  listed_with_key number numbers f listing place = by (f place) ∙ ap is_some (sym (listing.numbered place))
    where
      by : (o : Option K) → is_some o ≡ is_some (option_map number o)
      by None = refl
      by (Some k) = refl

  -- Two hashed indexes that list the same side by other numbers list the same places.
  pub same_places : (number number' : K → ℕ) (numbers numbers' : List (Option ℕ)) (f : ℕ → Option K) → ListsByHash same number numbers f → ListsByHash same number' numbers' f → places_from 0 numbers' ≡ places_from 0 numbers
  same_places number number' numbers numbers' f listing listing' =
      same_ascending (λ a b. a < b) (λ a b l m. omega (arith, l, m)) (places_from 0 numbers') (places_from 0 numbers) (ascends_from numbers' 0) (ascends_from numbers 0)
      (λ p.
      let before = hash_listed same number numbers f listing p in
      let after = hash_listed same number' numbers' f listing' p in
      (λ there. before.1 (after.0 there), λ there. after.1 (before.0 there)))

-- Iteration along a linked list, from both ends.
use Rattle.std.proofs.Common.{◌≡◌, ◌≢◌, ℕ, suc, ◌+◌, ◌-◌, ◌<◌, List, [], ◌∷◌, ◌++◌, length, take, drop, slice_get, Option, Some, sym, ap, subst, ◌∙◌, arith, add-one, drop-cons}
use Rattle.std.specs.List.{AllPairs, Contains, between}
use Rattle.std.proofs.lemmas.List.Edits.{between_more}
use Rattle.std.proofs.lemmas.Option.{get_or_from_slice_get, slice_get_within}
use Rattle.bimap_walk.proofs.Stepping.{AllPairs-between}
use Rattle.bimap_walk.specs.Positions.{IsListPosition, places_left}
use Rattle.bimap_walk.specs.declared.by_insertion.ListPosition.{ListPosition}

-- A place that is read is in the list.
pub read_listed : (places : List ℕ) (k place : ℕ) → slice_get places k ≡ Some place → Contains places place
read_listed places k place is = (k, slice_get_within places k place is, get_or_from_slice_get places k place place is)

module _ (places : List ℕ) (position : ListPosition) (positions : IsListPosition places position) where
  -- The places that are left are distinct.
  pub position_once : AllPairs (λ a b. a ≢ b) (places_left places position)
  position_once = AllPairs-between (λ a b. a ≢ b) places position.front position.back positions.within positions.distinct

  module _ (some : position.front < position.back) (place : ℕ) where
    -- Before the last place, the others are left.
    pub last_place : slice_get places (position.back - 1) ≡ Some place → places_left places position ≡ between position.front (position.back - 1) places ++ place ∷ []
    last_place is =
        let one : position.back - 1 + 1 ≡ position.back = omega (arith, some) in
        ap (λ n. between position.front n places) (sym one)
        ∙ between_more places position.front (position.back - 1) place (omega (arith, some)) (slice_get_within places (position.back - 1) place is)
        ∙ ap (λ p. between position.front (position.back - 1) places ++ p ∷ []) (get_or_from_slice_get places (position.back - 1) place place is)

    -- After the first place, the others are left.
    pub first_place : slice_get places position.front ≡ Some place → places_left places position ≡ place ∷ between (position.front + 1) position.back places
    first_place is =
        let rest = position.back - (position.front + 1) in
        let one : position.back - position.front ≡ suc rest = omega (arith, some) in
        ap (λ n. take n (drop position.front places)) one
        ∙ ap (take (suc rest)) (drop-cons places position.front place (slice_get_within places position.front place is))
        ∙ ap (λ p. p ∷ take rest (drop (suc position.front) places)) (get_or_from_slice_get places position.front place place is)
        ∙ ap (λ k. place ∷ take rest (drop k places)) (sym (add-one position.front))

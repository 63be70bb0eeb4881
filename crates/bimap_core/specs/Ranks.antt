-- What a removal by rank leaves of a store and of the places of an index.
use Rattle.std.specs.Prelude.{◌≡◌, ℕ, suc, ◌++◌, List, Option, length, take, drop, slice_get, IfSome}
use Rattle.bimap_any.specs.Exchange.{IsWithoutPair}
use Rattle.bimap_base.specs.PairsAt.{pairs_at}
use Rattle.bimap_base.specs.Places.{pairs_in}

-- The pair at this rank among the pairs at the places is removed, if there is one. The other pairs keep their order.
pub record IsTakenAtRank {L R : Type 0} (slots : List (Option (L × R))) (places : List ℕ) (rank : ℕ) (result : Option (L × R)) (slots' : List (Option (L × R))) (places' : List ℕ) : Type 0 where
  pub pair : result ≡ slice_get (pairs_at slots places) rank
  pub rest : pairs_at slots' places' ≡ take rank (pairs_at slots places) ++ drop (suc rank) (pairs_at slots places)
  pub removed : IfSome result (λ p. IsWithoutPair (pairs_in slots) p (pairs_in slots'))
  pub room : length slots' ≡ length slots

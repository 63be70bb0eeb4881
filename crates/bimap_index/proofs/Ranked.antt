-- An index in insertion order whose places move to the first ones. Each place moves to its rank.
use Rattle.std.proofs.Common.{◌≡◌, ◌≢◌, ◌↔◌, ℕ, zero, suc, ◌<◌, ◌-◌, List, [], ◌∷◌, length, Option, Some, None, IsSome, refl, sym, ap, subst, ◌∙◌, inl, inr, arith, true≢false, get_or, Contains}
use Rattle.std.specs.Prelude.{slice_get}
use Rattle.std.specs.List.{AllPairs, AllZip}
use Rattle.std.proofs.lemmas.List.{get_or_default}
use Rattle.std.proofs.lemmas.Option.{get_or_from_slice_get, slice_get_within}
use Rattle.std.proofs.lemmas.Bool.{cases_lt}
use Rattle.bimap_base.specs.Slots.{pair_at}
use Rattle.bimap_base.specs.Places.{pairs_in}
use Rattle.bimap_base.specs.PairsAt.{pairs_at}
use Rattle.bimap_base.proofs.Members.{cases_in, head_in, more_in, none_in}
use Rattle.bimap_base.proofs.Walk.{long_at, some_at}
use Rattle.bimap_list.specs.Ranks.{AreRanks}
use Rattle.bimap_index.specs.ByInsertion.{ListsByInsertion}
use Rattle.bimap_index.specs.HashLaws.{pairs_by_place}
use Rattle.bimap_index.specs.Listed.{IsCompactedSide}
use Rattle.bimap_index.proofs.Compaction.{live_in, rank_of}

module _ {K : Type 0} where
  -- If each of the first places has a key, a place's number is its position among the keys.
  dense : (keys : List (Option K)) (n : ℕ) → ((r : ℕ) → r < n → IsSome (pair_at keys r)) → (r : ℕ) → r < n → pair_at keys r ≡ slice_get (pairs_in keys) r
  dense [] n live r inside = absurd (true≢false (sym (live r inside)))
  dense (None ∷ keys) n live r inside = absurd (true≢false (sym (live 0 (omega (arith, inside)))))
  dense (Some k ∷ keys) n live zero inside = refl
  dense (Some k ∷ keys) n live (suc r) inside = dense keys (n - 1) (λ s less. live (suc s) (omega (arith, less))) r (omega (arith, inside))

  -- The key of the listed place at a position is the key that iteration visits at that position.
  by_insertion : (keys : List (Option K)) (places : List ℕ) → ((p : ℕ) → Contains places p → IsSome (pair_at keys p)) → (r p : ℕ) → slice_get places r ≡ Some p → slice_get (pairs_at keys places) r ≡ pair_at keys p
  by_insertion keys [] live r p is = cc
  by_insertion keys (q ∷ qs) live r p is = by (pair_at keys q) refl (live q (head_in q qs)) r is (λ s. by_insertion keys qs (λ p c. live p (more_in q qs p c)) s p)
    where
      by : (o : Option K) → pair_at keys q ≡ o → IsSome o → (r : ℕ) → slice_get (q ∷ qs) r ≡ Some p → ((s : ℕ) → slice_get qs s ≡ Some p → slice_get (pairs_at keys qs) s ≡ pair_at keys p) → slice_get (pairs_at keys (q ∷ qs)) r ≡ pair_at keys p
      by None e some r is rest = absurd (true≢false (sym some))
      by (Some k) e some zero is rest = let same : q ≡ p = cc in rw e (sym (ap (pair_at keys) (sym same) ∙ e))
      by (Some k) e some (suc r) is rest = rw e (rest r is)

  -- If the places of two lists have the same keys, one by one, then iteration visits the same keys.
  each_alike : (moved keys : List (Option K)) (R : ℕ → ℕ → Type 0) → ((p r : ℕ) → R p r → pair_at moved r ≡ pair_at keys p) → (places ranks : List ℕ) → AllZip R places ranks → pairs_at moved ranks ≡ pairs_at keys places
  each_alike moved keys R alike [] [] zip = refl
  each_alike moved keys R alike [] (r ∷ rs) zip = absurd zip
  each_alike moved keys R alike (p ∷ ps) [] zip = absurd zip
  each_alike moved keys R alike (p ∷ ps) (r ∷ rs) zip = by (pair_at keys p) refl (alike p r zip.0) (each_alike moved keys R alike ps rs zip.1)
    where
      by : (o : Option K) → pair_at keys p ≡ o → pair_at moved r ≡ pair_at keys p → pairs_at moved rs ≡ pairs_at keys ps → pairs_at moved (r ∷ rs) ≡ pairs_at keys (p ∷ ps)
      by None e same rest = rw (same, e) rest
      by (Some k) e same rest = rw (same, e) (ap (λ ks. k ∷ ks) rest)

module _ (places ranks : List ℕ) (are : AreRanks places ranks) where
  -- A listed rank is the rank of a place.
  rank_within : (r : ℕ) → Contains ranks r → r < length are.sorted
  rank_within r = by places ranks are.stand
    where
      by : (places ranks : List ℕ) → AllZip (λ p r. slice_get are.sorted r ≡ Some p) places ranks → Contains ranks r → r < length are.sorted
      by [] [] zip c = none_in r c
      by [] (s ∷ ss) zip c = absurd zip
      by (p ∷ ps) [] zip c = absurd zip
      by (p ∷ ps) (s ∷ ss) zip c =
          elim (cases_in s ss r c) [
            | inl same ↦ subst (λ z. z < length are.sorted) same (slice_get_within are.sorted s p zip.0)
            | inr d ↦ by ps ss zip.1 d
          ]

  -- Each rank of a place is listed.
  rank_listed : (r : ℕ) → r < length are.sorted → Contains ranks r
  rank_listed r inside = by places ranks are.stand ((are.same p).0 (r, inside, get_or_default are.sorted r p 0 inside))
    where
      p : ℕ
      p = get_or are.sorted r 0

      alone : (s : ℕ) → slice_get are.sorted s ≡ Some p → s ≡ r
      alone s is =
          let within = slice_get_within are.sorted s p is in
          let here : get_or are.sorted s 0 ≡ get_or are.sorted r 0 = get_or_from_slice_get are.sorted s p 0 is in
          elim (cases_lt s r) [
            | inl less ↦ let below = are.ascends s r 0 less inside in absurd (omega (arith, below, here))
            | inr more ↦ elim (cases_lt r s) [
              | inl less ↦ let below = are.ascends r s 0 less within in absurd (omega (arith, below, here))
              | inr same ↦ omega (arith, more, same)
            ]
          ]

      by : (places ranks : List ℕ) → AllZip (λ p r. slice_get are.sorted r ≡ Some p) places ranks → Contains places p → Contains ranks r
      by [] [] zip c = none_in p c
      by [] (s ∷ ss) zip c = absurd zip
      by (q ∷ qs) [] zip c = absurd zip
      by (q ∷ qs) (s ∷ ss) zip c =
          elim (cases_in q qs p c) [
            | inl same ↦ subst (Contains (s ∷ ss)) (alone s (zip.0 ∙ ap Some same)) (head_in s ss)
            | inr d ↦ more_in s ss r (by qs ss zip.1 d)
          ]

  module _ {K : Type 0} (keys : List (Option K)) (listed : (p : ℕ) → Contains places p ↔ IsSome (pair_at keys p)) where
    sorted_listed : (p : ℕ) → Contains are.sorted p ↔ IsSome (pair_at keys p)
    sorted_listed p = (λ c. (listed p).0 ((are.same p).0 c), λ some. (are.same p).1 ((listed p).1 some))

    in_turn : pairs_at keys are.sorted ≡ pairs_in keys
    in_turn = pairs_by_place keys are.sorted are.ascends sorted_listed

    key_of : (r p : ℕ) → slice_get are.sorted r ≡ Some p → slice_get (pairs_in keys) r ≡ pair_at keys p
    key_of r p is = ap (λ ks. slice_get ks r) (sym in_turn) ∙ by_insertion keys are.sorted (λ p. (sorted_listed p).0) r p is

    -- Iteration by the ranks visits the keys in the same order as iteration by the places.
    pub ranked_alike : (moved : List (Option K)) → ((r : ℕ) → Contains ranks r ↔ IsSome (pair_at moved r)) → pairs_in moved ≡ pairs_in keys → pairs_at moved ranks ≡ pairs_at keys places
    ranked_alike moved there same =
        each_alike moved keys (λ p r. slice_get are.sorted r ≡ Some p)
        (λ p r is. dense moved (length are.sorted) (λ s less. (there s).0 (rank_listed s less)) r (slice_get_within are.sorted r p is) ∙ ap (λ ks. slice_get ks r) same ∙ key_of r p is)
        places ranks are.stand

    as_many : length are.sorted ≡ length (pairs_in keys)
    as_many = sym (long_at keys are.sorted (λ p. (sorted_listed p).0)) ∙ ap length in_turn

    -- The listed ranks are the places of the compacted side that have a key.
    pub ranks_listed : (f g : ℕ → Option K) (to : ℕ) (side : IsCompactedSide f g to) → side.keys ≡ keys → (r : ℕ) → Contains ranks r ↔ IsSome (g r)
    ranks_listed f g to side is r =
        let n : length are.sorted ≡ length (pairs_in side.keys) = as_many ∙ ap (λ ks. length (pairs_in ks)) (sym is) in (
          λ c. subst IsSome (sym (side.after r)) (live_in (pairs_in side.keys) (to - length (pairs_in side.keys)) r (omega (arith, rank_within r c, n))),
          λ some.
              let k = some_at (g r) some in
              let within = rank_of (pairs_in side.keys) (to - length (pairs_in side.keys)) r k.0 (sym (side.after r) ∙ k.1) in
              rank_listed r (omega (arith, within.0, n)),
        )

-- An index that adopts a compacted side lists it in the order in which it was listed before.
pub insertion_compacted : {X K : Type 0} (IsListing : X → (ℕ → Option K) → Type 0) (old new : X) (places ranks : List ℕ) (f g : ℕ → Option K) (to : ℕ) → ListsByInsertion IsListing old places f → IsCompactedSide f g to → AreRanks places ranks → IsListing new g → AllPairs (λ a b. a ≢ b) ranks → ListsByInsertion IsListing new ranks g
insertion_compacted IsListing old new places ranks f g to listing side are found distinct =
    record {
      found = found;
      lists = ranks_listed places ranks are side.keys (λ p. (λ c. subst IsSome (side.before p) ((listing.lists p).0 c), λ some. (listing.lists p).1 (subst IsSome (sym (side.before p)) some))) f g to side refl;
      distinct = distinct;
    }

-- Why the laws of an index are true of a hashed one.
use Rattle.std.specs.declared.cmp.Ordering.TheVariants.{Less}
use Rattle.std.specs.Prelude.{◌≡◌, ◌≢◌, ◌↔◌, ℕ, zero, suc, ◌+◌, ◌<◌, Bool, true, List, [], ◌∷◌, Option, Some, None, is_some, IsSome}
use Rattle.std.proofs.Common.{get_or, refl, sym, ap, subst, ◌∙◌, inl, inr, arith, true≢false}
use Rattle.std.specs.Option.{option_map}
use Rattle.std.specs.Cmp.{IsEquivalence}
use Rattle.std.specs.List.{AllPairs, Contains, filter_map}
use Rattle.std.proofs.lemmas.List.{get_or_default}
use Rattle.std.proofs.lemmas.List.Kept.{AllPairs-cons}
use Rattle.std.proofs.Math.Logic.{∥∥₁_elim}
use Rattle.std.proofs.Props.{props}
use Rattle.bimap_base.specs.Slots.{pair_at}
use Rattle.bimap_base.specs.Places.{pairs_in}
use Rattle.bimap_base.specs.PairsAt.{pairs_at}
use Rattle.bimap_base.proofs.Members.{more_in, cases_in, none_in}
use Rattle.bimap_chain.specs.Chains.{number_at}
use Rattle.bimap_index.specs.Listed.{IsAlike}
use Rattle.bimap_index.specs.ByHash.{ListsByHash, places_from}
use Rattle.bimap_index.specs.SameLists.{same_ascending}

module _ {P : Type 0} where
  -- Each of these places has something, and is not before `first`.
  pub in_places : (slots : List (Option P)) (first p : ℕ) → Contains (places_from first slots) p → (d : ℕ) × (p ≡ first + d) × IsSome (pair_at slots d)
  in_places [] first p c = none_in p c
  in_places (None ∷ slots) first p c = let r = in_places slots (suc first) p c in (suc r.0, omega (arith, r.1), r.2)
  in_places (Some x ∷ slots) first p c =
      elim (cases_in first (places_from (suc first) slots) p c) [
        | inl e ↦ (0, omega (arith, e), refl)
        | inr d ↦ let r = in_places slots (suc first) p d in (suc r.0, omega (arith, r.1), r.2)
      ]

  -- Each place that has something is one of these places.
  pub to_places : (slots : List (Option P)) (first d : ℕ) → IsSome (pair_at slots d) → Contains (places_from first slots) (first + d)
  to_places [] first d e = absurd (true≢false (sym e))
  to_places (None ∷ slots) first zero e = absurd (true≢false (sym e))
  to_places (None ∷ slots) first (suc d) e = let h : suc first + d ≡ first + suc d = omega arith in subst (Contains (places_from (suc first) slots)) h (to_places slots (suc first) d e)
  to_places (Some x ∷ slots) first zero e = (0, omega arith, omega arith)
  to_places (Some x ∷ slots) first (suc d) e =
      let h : suc first + d ≡ first + suc d = omega arith in
      more_in first (places_from (suc first) slots) (first + suc d) (subst (Contains (places_from (suc first) slots)) h (to_places slots (suc first) d e))

  -- The places ascend.
  pub ascends_from : (slots : List (Option P)) (first : ℕ) → AllPairs (λ a b. a < b) (places_from first slots)
  ascends_from [] first = λ i j d l m. absurd (omega arith)
  ascends_from (None ∷ slots) first = ascends_from slots (suc first)
  ascends_from (Some x ∷ slots) first =
      let later = places_from (suc first) slots in
      AllPairs-cons (λ a b. a < b) first later
      (λ k d l. let r = in_places slots (suc first) (get_or later k d) (k, l, get_or_default later k (get_or later k d) d l) in omega (arith, r.1))
      (ascends_from slots (suc first))

  read_from : (slots : List (Option P)) (first : ℕ) (at : ℕ → Option P) → ((d : ℕ) → at (first + d) ≡ pair_at slots d) → filter_map at (places_from first slots) ≡ pairs_in slots
  read_from [] first at same = refl
  read_from (None ∷ slots) first at same = read_from slots (suc first) at (λ d. ap at (let e : suc first + d ≡ first + suc d = omega arith in e) ∙ same (suc d))
  read_from (Some x ∷ slots) first at same =
      let here : at first ≡ Some x = ap at (let e : first ≡ first + 0 = omega arith in e) ∙ same 0 in
      let rest = read_from slots (suc first) at (λ d. ap at (let e : suc first + d ≡ first + suc d = omega arith in e) ∙ same (suc d)) in
      rw here (ap (λ z. x ∷ z) rest)

  -- If the places that contain a pair are visited in ascending order, the pairs are those of the store in its order.
  pub pairs_by_place : (slots : List (Option P)) (places : List ℕ) → AllPairs (λ a b. a < b) places → ((p : ℕ) → Contains places p ↔ IsSome (pair_at slots p)) → pairs_at slots places ≡ pairs_in slots
  pairs_by_place slots places up listed =
      ap (pairs_at slots) (same_ascending (λ a b. a < b) (λ a b l m. omega (arith, l, m)) places (places_from 0 slots) up (ascends_from slots 0) (λ p. (to p, from p)))
      ∙ read_from slots 0 (pair_at slots) (λ d. ap (pair_at slots) (let e : 0 + d ≡ d = omega arith in e))
    where
      to : (p : ℕ) → Contains places p → Contains (places_from 0 slots) p
      to p c = let e : 0 + p ≡ p = omega arith in subst (Contains (places_from 0 slots)) e (to_places slots 0 p ((listed p).0 c))

      from : (p : ℕ) → Contains (places_from 0 slots) p → Contains places p
      from p c = let r = in_places slots 0 p c in (listed p).1 (let e : r.0 ≡ p = omega (arith, r.1) in subst (λ z. IsSome (pair_at slots z)) e r.2)

module _ {K : Type 0} (same : K → K → Bool) (number : K → ℕ) where
  -- The same places are listed after keys are exchanged for equal ones.
  pub hash_respects : IsEquivalence same → ((x y : K) → same x y ≡ true → number x ≡ number y) → (numbers : List (Option ℕ)) (f g : ℕ → Option K) → ((p : ℕ) → IsAlike same (f p) (g p)) → ListsByHash same number numbers f → ListsByHash same number numbers g
  hash_respects equal hashes numbers f g alike listing =
      record {
        numbered = λ place. listing.numbered place ∙ numbers_alike (f place) (g place) (alike place);
        apart = λ a b x y away first second.
            let k = back (f a) (g a) x (alike a) first in
            let l = back (f b) (g b) y (alike b) second in
            sym (equal.congr k.0 x y k.2) ∙ equal.symm k.0 y ∙ sym (equal.congr l.0 y k.0 l.2) ∙ equal.symm l.0 k.0 ∙ listing.apart a b k.0 l.0 away k.1 l.1;
      }
    where
      numbers_alike : (o p : Option K) → IsAlike same o p → option_map number o ≡ option_map number p
      numbers_alike None None a = refl
      numbers_alike None (Some l) a = absurd a
      numbers_alike (Some k) None a = absurd a
      numbers_alike (Some k) (Some l) a = ap Some (hashes k l a)

      back : (o p : Option K) (x : K) → IsAlike same o p → p ≡ Some x → (k : K) × (o ≡ Some k) × (same k x ≡ true)
      back None None x a e = absurd (cc)
      back None (Some l) x a e = absurd a
      back (Some k) None x a e = absurd a
      back (Some k) (Some l) x a e = let s : l ≡ x = cc in (k, refl, subst (λ z. same k z ≡ true) s a)

  -- There is at most one proof that the index lists a side.
  pub hash_settled : (numbers : List (Option ℕ)) (f : ℕ → Option K) → ∥ ListsByHash same number numbers f ∥₁ → ListsByHash same number numbers f
  hash_settled numbers f h = record {
    numbered = λ place. ∥∥₁_elim h (hlevel props) (λ k. k.numbered place);
    apart = λ a b k l away first second. ∥∥₁_elim h (hlevel props) (λ w. w.apart a b k l away first second);
  }

  -- The index lists exactly the places that have a key.
  pub hash_listed : (numbers : List (Option ℕ)) (f : ℕ → Option K) → ListsByHash same number numbers f → (p : ℕ) → Contains (places_from 0 numbers) p ↔ IsSome (f p)
  hash_listed numbers f listing p = (
    λ c. let r = in_places numbers 0 p c in let e : r.0 ≡ p = omega (arith, r.1) in has (f p) (sym (ap is_some (listing.numbered p)) ∙ subst (λ z. is_some (number_at numbers z) ≡ true) e r.2),
    λ s. let e : 0 + p ≡ p = omega arith in subst (Contains (places_from 0 numbers)) e (to_places numbers 0 p (ap is_some (listing.numbered p) ∙ had (f p) s)),
  )
    where
      has : (o : Option K) → is_some (option_map number o) ≡ true → IsSome o
      has None e = e
      has (Some k) e = refl

      had : (o : Option K) → IsSome o → is_some (option_map number o) ≡ true
      had None e = e
      had (Some k) e = refl

  -- No place is listed twice.
  pub hash_distinct : (numbers : List (Option ℕ)) (f : ℕ → Option K) → ListsByHash same number numbers f → AllPairs (λ a b. a ≢ b) (places_from 0 numbers)
  hash_distinct numbers f listing i j d before inside e = let less = ascends_from numbers 0 i j d before inside in omega (arith, less, e)

  -- The places are listed in ascending order.
  pub hash_by_place : (numbers : List (Option ℕ)) (f : ℕ → Option K) → ListsByHash same number numbers f → AllPairs (λ a b. a < b) (places_from 0 numbers)
  hash_by_place numbers f listing = ascends_from numbers 0

  -- A hashed index has no order of its keys: any two are `Less`.
  pub hash_in_order : (numbers : List (Option ℕ)) (f : ℕ → Option K) → ListsByHash same number numbers f → AllPairs (λ a b. (k l : K) → f a ≡ Some k → f b ≡ Some l → Less ≡ Less) (places_from 0 numbers)
  hash_in_order numbers f listing i j d before inside k l first second = refl

  -- Iteration visits the keys in the order of their places.
  pub hash_walk_in : (numbers : List (Option ℕ)) (keys : List (Option K)) → ListsByHash same number numbers (pair_at keys) → pairs_at keys (places_from 0 numbers) ≡ pairs_in keys
  hash_walk_in numbers keys listing = pairs_by_place keys (places_from 0 numbers) (hash_by_place numbers (pair_at keys) listing) (hash_listed numbers (pair_at keys) listing)

-- Two hashed indexes iterate alike if their stores have the same keys in the same order of places.
-- This is true whatever hash numbers the keys have.
pub hash_walks_alike : {K : Type 0} (same : K → K → Bool) (number number' : K → ℕ) (numbers numbers' : List (Option ℕ)) (keys keys' : List (Option K)) → ListsByHash same number numbers (pair_at keys) → ListsByHash same number' numbers' (pair_at keys') → pairs_in keys' ≡ pairs_in keys → pairs_at keys' (places_from 0 numbers') ≡ pairs_at keys (places_from 0 numbers)
hash_walks_alike same number number' numbers numbers' keys keys' listing listing' alike =
    hash_walk_in same number' numbers' keys' listing' ∙ alike ∙ sym (hash_walk_in same number numbers keys listing)

-- A side whose keys are moved to the first places, and a hashed index of this side.
use Rattle.std.proofs.Common.{get_or, ◌≡◌, ◌≢◌, ℕ, zero, suc, ◌<◌, ◌≤◌, ◌-◌, ◌++◌, Bool, false, List, [], ◌∷◌, length, map, replicate, Option, Some, None, IsSome, refl, sym, ap, subst, ◌∙◌, inl, inr, arith}
use Rattle.std.specs.Prelude.{Result, Ok, Err, IfOk}
use Rattle.std.specs.Option.{option_map}
use Rattle.std.specs.Cmp.{IsEquivalence}
use Rattle.std.specs.List.{AllPairs}
use Rattle.std.proofs.lemmas.Bool.{cases_lt}
use Rattle.std.proofs.lemmas.List.{get_or_default}
use Rattle.std.proofs.lemmas.List.Kept.{AllPairs-cons}
use Rattle.bimap_base.specs.Slots.{pair_at}
use Rattle.bimap_base.specs.Places.{pairs_in, compacted}
use Rattle.bimap_base.proofs.Compaction.{length-compacted}
use Rattle.bimap_base.proofs.Walk.{nothing_in, place_of}
use Rattle.bimap_chain.specs.Chains.{number_at}
use Rattle.bimap_index.specs.Listed.{IsCompactedSide}
use Rattle.bimap_index.specs.ByHash.{ListsByHash, places_from}

module _ {P : Type 0} where
  -- The number of places that have something is the number of things in the slots.
  pub length-places_from : (slots : List (Option P)) (first : ℕ) → length (places_from first slots) ≡ length (pairs_in slots)
  length-places_from [] first = refl
  length-places_from (None ∷ slots) first = length-places_from slots (suc first)
  length-places_from (Some x ∷ slots) first = ap suc (length-places_from slots (suc first))

  -- What is true of any two things by their places is true of any two by their order in the list.
  in_turn : (R : P → P → Type 0) (slots : List (Option P)) → ((a b : ℕ) (p q : P) → a < b → pair_at slots a ≡ Some p → pair_at slots b ≡ Some q → R p q) → AllPairs R (pairs_in slots)
  in_turn R [] h = λ i j d before inside. absurd (omega (arith, inside))
  in_turn R (None ∷ slots) h = in_turn R slots (λ a b p q e. h (suc a) (suc b) p q (omega (arith, e)))
  in_turn R (Some x ∷ slots) h =
      AllPairs-cons R x (pairs_in slots)
      (λ k d inside. let r = place_of slots (get_or (pairs_in slots) k d) (k, inside, get_or_default (pairs_in slots) k (get_or (pairs_in slots) k d) d inside) in h 0 (suc r.0) x (get_or (pairs_in slots) k d) (omega arith) refl r.1)
      (in_turn R slots (λ a b p q e. h (suc a) (suc b) p q (omega (arith, e))))

  none_at : (k place : ℕ) → pair_at {P = P} (replicate k None) place ≡ None
  none_at zero place = refl
  none_at (suc k) zero = refl
  none_at (suc k) (suc place) = none_at k place

  -- In a compacted list, the thing at a place is the thing with that rank.
  pub rank_of : (ps : List P) (k place : ℕ) (p : P) → pair_at (map Some ps ++ replicate k None) place ≡ Some p → (place < length ps) × (get_or ps place p ≡ p)
  rank_of [] k place p is = let none = none_at k place in absurd (cc)
  rank_of (x ∷ ps) k zero p is = (omega arith, (cc))
  rank_of (x ∷ ps) k (suc place) p is = let r = rank_of ps k place p is in (omega (arith, r.0), r.1)

  -- In a compacted list, each of the first places has something.
  pub live_in : (ps : List P) (k place : ℕ) → place < length ps → IsSome (pair_at (map Some ps ++ replicate k None) place)
  live_in [] k place inside = absurd (omega (arith, inside))
  live_in (x ∷ ps) k zero inside = refl
  live_in (x ∷ ps) k (suc place) inside = live_in ps k place (omega (arith, inside))

module _ {P K : Type 0} (key : P → K) where
  pub keys_at : (slots : List (Option P)) (place : ℕ) → option_map key (pair_at slots place) ≡ pair_at (map (option_map key) slots) place
  keys_at [] place = refl
  keys_at (x ∷ slots) zero = refl
  keys_at (x ∷ slots) (suc place) = keys_at slots place

  pub keys_in : (slots : List (Option P)) → pairs_in (map (option_map key) slots) ≡ map key (pairs_in slots)
  keys_in [] = refl
  keys_in (None ∷ slots) = keys_in slots
  keys_in (Some x ∷ slots) = ap (λ z. key x ∷ z) (keys_in slots)

  keys_first : (ps : List P) (k m place : ℕ) → option_map key (pair_at (map Some ps ++ replicate k None) place) ≡ pair_at (map Some (map key ps) ++ replicate m None) place
  keys_first [] k m place = ap (option_map key) (none_at k place) ∙ sym (none_at m place)
  keys_first (x ∷ ps) k m zero = refl
  keys_first (x ∷ ps) k m (suc place) = keys_first ps k m place

  -- A compacted store has compacted sides.
  pub compacted_side : (slots : List (Option P)) (to : ℕ) → IsCompactedSide (λ place. option_map key (pair_at slots place)) (λ place. option_map key (pair_at (compacted (pairs_in slots) to) place)) to
  compacted_side slots to =
      record {
        keys = map (option_map key) slots;
        before = keys_at slots;
        after = λ place. keys_first (pairs_in slots) (to - length (pairs_in slots)) (to - length (map key (pairs_in slots))) place
            ∙ ap (λ z. pair_at (compacted z to) place) (sym (keys_in slots));
      }

module _ {K : Type 0} (number : K → ℕ) where
  free_at : (x : Option K) → option_map number x ≡ None → x ≡ None
  free_at None e = refl
  free_at (Some k) e = absurd (cc)

  -- The listed hash numbers are those of the keys, in the same order.
  numbers_in : (keys : List (Option K)) (numbers : List (Option ℕ)) → ((place : ℕ) → number_at numbers place ≡ option_map number (pair_at keys place)) → pairs_in numbers ≡ map number (pairs_in keys)
  numbers_in [] numbers h = nothing_in numbers h
  numbers_in (x ∷ keys) [] h = sym (ap (map number) (nothing_in (x ∷ keys) (λ place. free_at (pair_at (x ∷ keys) place) (sym (h place)))))
  numbers_in (x ∷ keys) (y ∷ numbers) h = by x y (h 0) (numbers_in keys numbers (λ place. h (suc place)))
    where
      by : (x : Option K) (y : Option ℕ) → y ≡ option_map number x → pairs_in numbers ≡ map number (pairs_in keys) → pairs_in (y ∷ numbers) ≡ map number (pairs_in (x ∷ keys))
      by None y e rest = ap (λ z. pairs_in (z ∷ numbers)) e ∙ rest
      by (Some k) y e rest = ap (λ z. pairs_in (z ∷ numbers)) e ∙ ap (λ z. number k ∷ z) rest

-- A symmetric relation between the keys of any two places is true of these keys after they are moved.
pub compacted_apart : {K : Type 0} {f g : ℕ → Option K} {to : ℕ} → IsCompactedSide f g to → (R : K → K → Type 0) → ((k l : K) → R k l → R l k) → ((a b : ℕ) (k l : K) → a ≢ b → f a ≡ Some k → f b ≡ Some l → R k l) → (a b : ℕ) (k l : K) → a ≢ b → g a ≡ Some k → g b ≡ Some l → R k l
compacted_apart {K} {f} {g} {to} side R turned apart a b k l away first second =
    let here = rank_of keys (to - length keys) a k (sym (side.after a) ∙ first) in
    let there = rank_of keys (to - length keys) b l (sym (side.after b) ∙ second) in
    elim (cases_lt a b) [
      | inl less ↦ ranked a b k l less here there
      | inr other ↦ turned l k (ranked b a l k (omega (arith, other, away)) there here)
    ]
  where
    keys : List K
    keys = pairs_in side.keys

    ranked : (a b : ℕ) (k l : K) → a < b → (a < length keys) × (get_or keys a k ≡ k) → (b < length keys) × (get_or keys b l ≡ l) → R k l
    ranked a b k l less first second =
        let all = in_turn R side.keys (λ a b p q e first second. apart a b p q (λ h. absurd (omega (arith, e, h))) (side.before a ∙ first) (side.before b ∙ second)) in
        let y : get_or keys b k ≡ l = get_or_default keys b k l second.0 ∙ second.1 in
        subst (R k) y (subst (λ z. R z (get_or keys b k)) first.1 (all a b k less second.0))

-- After the compaction, the moved hash numbers list the moved keys.
pub hash_compacted : {K : Type 0} (same : K → K → Bool) (number : K → ℕ) → IsEquivalence same → (numbers new : List (Option ℕ)) (f g : ℕ → Option K) (to : ℕ) → ListsByHash same number numbers f → IsCompactedSide f g to → new ≡ compacted (pairs_in numbers) to → ListsByHash same number new g
hash_compacted {K} same number equal numbers new f g to listing side now =
    subst (λ z. ListsByHash same number z g) (sym now) record {
      numbered = λ place. ap (λ z. number_at (compacted z to) place) told
          ∙ sym (keys_first number keys (to - length keys) (to - length (map number keys)) place)
          ∙ ap (option_map number) (sym (side.after place));
      apart = compacted_apart side (λ k l. same k l ≡ false) (λ k l e. sym (equal.symm k l) ∙ e) listing.apart;
    }
  where
    keys : List K
    keys = pairs_in side.keys

    told : pairs_in numbers ≡ map number keys
    told = numbers_in number side.keys numbers (λ place. listing.numbered place ∙ ap (option_map number) (side.before place))

pub cells_compacted : (numbers new : List (Option ℕ)) (to : ℕ) → length (pairs_in numbers) ≤ to → new ≡ compacted (pairs_in numbers) to → length new ≡ to
cells_compacted numbers new to fits now = ap length now ∙ length-compacted (pairs_in numbers) to fits

-- If a call returns `made`, its result comes with any fact that is already proved.
pub made_fits : {X E : Type 0} (r : Result X E) (made : X) (fits : Type 0) → fits → IfOk r (λ x. x ≡ made) → IfOk r (λ x. fits × (x ≡ made))
made_fits (Ok x) made fits enough is = (enough, is)
made_fits (Err e) made fits enough is = tt

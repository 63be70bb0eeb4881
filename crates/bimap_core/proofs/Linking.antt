-- An index and its store, under writes at one place. The argument `key` is the side, so each lemma serves both sides.
use Rattle.std.proofs.Common.{◌≡◌, ◌≢◌, ℕ, ◌<◌, ◌≤◌, Bool, true, false, List, length, Option, Some, None, is_some, refl, sym, ap, subst, ◌∙◌, inl, inr, arith}
use Rattle.std.specs.Prelude.{IfSome, IsSomeAnd, slice_set, Result, Ok, Err, OnOk, OnErr, max}
use Rattle.std.specs.Option.{option_map}
use Rattle.std.specs.Cmp.{IsEquivalence}
use Rattle.std.proofs.lemmas.Bool.{cases_eq}
use Rattle.std.proofs.lemmas.List.{get_or-set_same, get_or-set_other}
use Rattle.bimap_base.specs.Slots.{pair_at}
use Rattle.bimap_base.specs.Places.{IsFoundAt}
use Rattle.bimap_index.specs.Listed.{IsFoundBy, IsAbsentElsewhere, IsWithout, IsAlike, MayLink}

module _ {P K : Type 0} (key : P → K) where
  abbrev pub keys_in : List (Option P) → ℕ → Option K
  keys_in slots place = option_map key (pair_at slots place)

module _ {P K Q : Type 0} (key : P → K) (same : K → Q → Bool) where
  -- What an index finds, expressed by the store.
  pub found_at : (slots : List (Option P)) (k : Q) (o : Option ℕ) → IsFoundBy (keys_in key slots) same k o → IsFoundAt key same slots k o
  found_at slots k o f = record { here = here o f.here; elsewhere = λ place p away i. f.elsewhere place (key p) away (ap (option_map key) i) }
    where
      at : (p : Option P) → IsSomeAnd (option_map key p) (λ x. same x k ≡ true) → IsSomeAnd p (λ p. same (key p) k ≡ true)
      at None h = h
      at (Some p) h = h

      here : (o : Option ℕ) → IfSome o (λ place. IsSomeAnd (keys_in key slots place) (λ x. same x k ≡ true)) → IfSome o (λ place. IsSomeAnd (pair_at slots place) (λ p. same (key p) k ≡ true))
      here None h = tt
      here (Some place) h = at (pair_at slots place) h

  -- The returned place has a pair with an equal key.
  pub found_here : (slots : List (Option P)) (k : Q) (o : Option ℕ) → IsFoundBy (keys_in key slots) same k o → (place : ℕ) → o ≡ Some place → IsSomeAnd (pair_at slots place) (λ p. same (key p) k ≡ true)
  found_here slots k o f place e = rw e at (found_at slots k o f).here

  -- The found place has a pair, and so a key on the other side.
  pub found_beside : {X : Type 0} (other : P → X) (slots : List (Option P)) (k : Q) (o : Option ℕ) → IsFoundBy (keys_in key slots) same k o → (place : ℕ) → o ≡ Some place → is_some (option_map other (pair_at slots place)) ≡ true
  found_beside other slots k o f place e = by (pair_at slots place) (found_here slots k o f place e)
    where
      by : (p : Option P) → IsSomeAnd p (λ p. same (key p) k ≡ true) → is_some (option_map other p) ≡ true
      by None h = absurd h
      by (Some p) h = refl

module _ {P K : Type 0} (key : P → K) (same : K → K → Bool) where
  -- If each place has the pair that it had, the side is the same.
  pub keys_kept : (old new : List (Option P)) → ((place : ℕ) → pair_at new place ≡ pair_at old place) → keys_in key old ≡ keys_in key new
  keys_kept old new kept = λ i place. (ap (option_map key) (sym (kept place))) i

  -- If no place has a pair, no place has a key.
  pub no_keys : (slots : List (Option P)) → ((place : ℕ) → pair_at slots place ≡ None) → (λ (_ : ℕ). None) ≡ keys_in key slots
  no_keys slots free = λ i place. (ap (option_map key) (sym (free place))) i

  module _ (slots : List (Option P)) (place : ℕ) where
    others : (o : Option P) (q : ℕ) → (q ≡ place → ⊥) → keys_in key (slice_set slots place o) q ≡ keys_in key slots q
    others o q away = ap (option_map key) (get_or-set_other slots place q o None away)

    -- A place gets a pair.
    pub put_without : (p : P) → pair_at slots place ≡ None → IsWithout (keys_in key slots) (keys_in key (slice_set slots place (Some p))) place
    put_without p free = record { free = ap (option_map key) free; others = others (Some p) }

    -- A place loses its pair.
    pub taken_without : place < length slots → IsWithout (keys_in key (slice_set slots place None)) (keys_in key slots) place
    taken_without inside = record { free = ap (option_map key) (get_or-set_same slots place None None inside); others = λ q away. sym (others None q away) }

    -- A pair overwrites another one.
    pub over_without : (p : P) → place < length slots → IsWithout (keys_in key (slice_set slots place None)) (keys_in key (slice_set slots place (Some p))) place
    over_without p inside = record { free = ap (option_map key) (get_or-set_same slots place None None inside); others = λ q away. others (Some p) q away ∙ sym (others None q away) }

    pub live_put : (p : P) → place < length slots → keys_in key (slice_set slots place (Some p)) place ≡ Some (key p)
    live_put p inside = ap (option_map key) (get_or-set_same slots place (Some p) None inside)

    -- No other place has an equal key.
    pub absent_put : (p : P) → ((other : ℕ) (q : P) → other ≢ place → pair_at slots other ≡ Some q → same (key q) (key p) ≡ false) → IsAbsentElsewhere (keys_in key (slice_set slots place (Some p))) same (key p) place
    absent_put p alone other k away i = by (pair_at slots other) refl (sym (others (Some p) other away) ∙ i)
      where
        by : (o : Option P) → pair_at slots other ≡ o → option_map key o ≡ Some k → same k (key p) ≡ false
        by None e j = absurd (cc)
        by (Some q) e j = let s : key q ≡ k = cc in subst (λ z. same z (key p) ≡ false) s (alone other q away e)

    -- A pair overwrites one with an equal key.
    pub alike_put : IsEquivalence same → (p q : P) → place < length slots → pair_at slots place ≡ Some p → same (key p) (key q) ≡ true → (r : ℕ) → IsAlike same (keys_in key slots r) (keys_in key (slice_set slots place (Some q)) r)
    alike_put equal p q inside was alike r =
        elim (cases_eq r place) [
          | inl at ↦
              let first : keys_in key slots r ≡ Some (key p) = ap (keys_in key slots) at ∙ ap (option_map key) was in
              let second : keys_in key (slice_set slots place (Some q)) r ≡ Some (key q) = ap (keys_in key (slice_set slots place (Some q))) at ∙ live_put q inside in
              subst (λ z. IsAlike same z (keys_in key (slice_set slots place (Some q)) r)) (sym first) (subst (λ z. IsAlike same (Some (key p)) z) (sym second) alike)
          | inr away ↦ subst (λ z. IsAlike same (keys_in key slots r) z) (sym (others (Some q) r away)) (itself (keys_in key slots r))
        ]
      where
        itself : (o : Option K) → IsAlike same o o
        itself None = tt
        itself (Some k) = equal.refl k

    module _ {X : Type 0} (IsListing : X → (ℕ → Option K) → Type 0) (index : X) (p : P) (inside : place < length slots) (alone : (other : ℕ) (q : P) → other ≢ place → pair_at slots other ≡ Some q → same (key q) (key p) ≡ false) where
      -- A free place that got a pair may be listed.
      unfoldable pub may_put : pair_at slots place ≡ None → IsListing index (keys_in key slots) → MayLink IsListing same index (keys_in key (slice_set slots place (Some p))) place (key p)
      may_put free listing = record { f = keys_in key slots; listing = listing; without = put_without p free; live = live_put p inside; absent = absent_put p alone }

      -- A place whose pair was overwritten may be listed.
      pub may_over : IsListing index (keys_in key (slice_set slots place None)) → MayLink IsListing same index (keys_in key (slice_set slots place (Some p))) place (key p)
      may_over listing = record { f = keys_in key (slice_set slots place None); listing = listing; without = over_without p inside; live = live_put p inside; absent = absent_put p alone }

-- After a growth, there is a cell for each place.
pub cells_enough : {T E P : Type 0} (slots slots' : List (Option P)) (to m n : ℕ) (r : Result T E) → OnOk r (length slots' ≡ max to (length slots)) → OnErr r (slots' ≡ slots) → length slots ≤ m → m ≤ n → to ≤ n → length slots' ≤ n
cells_enough slots slots' to m n (Ok x) o e h k l = omega (arith, o)
cells_enough slots slots' to m n (Err x) o e h k l = omega (arith, ap length e)

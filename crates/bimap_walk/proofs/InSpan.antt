-- The pairs whose key lies in a range are those of a window.
use Rattle.std.proofs.Common.{◌≡◌, ℕ, zero, suc, ◌+◌, ◌-◌, ◌≤◌, Bool, false, List, [], ◌∷◌, length, get_or, take, drop, slice_get, Option, None, Some, is_some, IsSome, refl, sym, ap, subst, ◌∙◌, arith}
use Rattle.std.specs.List.{All, between, cons_option, filter}
use Rattle.std.specs.Option.{option_map}
use Rattle.std.proofs.lemmas.List.{get_or_default}
use Rattle.std.proofs.lemmas.List.Edits.{get_or-between, length-between}
use Rattle.std.specs.declared.cmp.Ordering.{Ordering}
use Rattle.bimap_base.specs.Keyed.{Ascends}
use Rattle.bimap_base.specs.PairsAt.{pairs_at}
use Rattle.bimap_base.specs.Slots.{pair_at, IsLive}
use Rattle.bimap_tree.specs.Spans.{IsSpan}

module _ {P K : Type 0} (key : P → K) (test : K → Bool) (slots : List (Option P)) where
  abbrev key_at : ℕ → Option K
  key_at p = option_map key (pair_at slots p)

  none_in : (places : List ℕ) → ((i p : ℕ) (k : K) → slice_get places i ≡ Some p → key_at p ≡ Some k → test k ≡ false) → filter (λ x. test (key x)) (pairs_at slots places) ≡ []
  none_in [] out = refl
  none_in (p ∷ ps) out = by_slot (pair_at slots p) refl (none_in ps (λ i q k at. out (suc i) q k at))
    where
      by_slot : (o : Option P) → pair_at slots p ≡ o → filter (λ x. test (key x)) (pairs_at slots ps) ≡ [] → filter (λ x. test (key x)) (cons_option o (pairs_at slots ps)) ≡ []
      by_slot None e rest = rest
      by_slot (Some x) e rest = let f = out 0 p (key x) refl (ap (option_map key) e) in rw f rest

  first_in : (n : ℕ) (places : List ℕ) → IsSpan test key_at places 0 n → filter (λ x. test (key x)) (pairs_at slots places) ≡ pairs_at slots (take n places)
  first_in zero places span = none_in places (λ i p k at has. span.after i p k (omega arith) at has)
  first_in (suc n) [] span = refl
  first_in (suc n) (p ∷ ps) span = by_slot (pair_at slots p) refl (first_in n ps (record {
    before = λ i q k l. absurd (omega (arith, l));
    inside = λ i q k l m at. span.inside (suc i) q k (omega arith) (omega (arith, m)) at;
    after = λ i q k l at. span.after (suc i) q k (omega (arith, l)) at;
  }))
    where
      by_slot : (o : Option P) → pair_at slots p ≡ o → filter (λ x. test (key x)) (pairs_at slots ps) ≡ pairs_at slots (take n ps) → filter (λ x. test (key x)) (cons_option o (pairs_at slots ps)) ≡ cons_option o (pairs_at slots (take n ps))
      by_slot None e rest = rest
      by_slot (Some x) e rest = let f = span.inside 0 p (key x) (omega arith) (omega arith) refl (ap (option_map key) e) in rw f (ap (λ xs. x ∷ xs) rest)

  span_from : (front n : ℕ) (places : List ℕ) → IsSpan test key_at places front (front + n) → filter (λ x. test (key x)) (pairs_at slots places) ≡ pairs_at slots (take n (drop front places))
  span_from zero n places span = first_in n places (record {
    before = λ i q k l. absurd (omega (arith, l));
    inside = λ i q k l m at. span.inside i q k (omega arith) (omega (arith, m)) at;
    after = λ i q k l at. span.after i q k (omega (arith, l)) at;
  })
  span_from (suc front) zero [] span = refl
  span_from (suc front) (suc n) [] span = refl
  span_from (suc front) n (p ∷ ps) span = by_slot (pair_at slots p) refl (span_from front n ps (record {
    before = λ i q k l at. span.before (suc i) q k (omega (arith, l)) at;
    inside = λ i q k l m at. span.inside (suc i) q k (omega (arith, l)) (omega (arith, m)) at;
    after = λ i q k l at. span.after (suc i) q k (omega (arith, l)) at;
  }))
    where
      by_slot : (o : Option P) → pair_at slots p ≡ o → filter (λ x. test (key x)) (pairs_at slots ps) ≡ pairs_at slots (take n (drop front ps)) → filter (λ x. test (key x)) (cons_option o (pairs_at slots ps)) ≡ pairs_at slots (take n (drop front ps))
      by_slot None e rest = rest
      by_slot (Some x) e rest = let f = span.before 0 p (key x) (omega arith) refl (ap (option_map key) e) in rw f rest

  -- The pairs whose key passes the test are those of the window.
  pub pairs_in_span : (places : List ℕ) (front back : ℕ) → front ≤ back → IsSpan test key_at places front back → filter (λ x. test (key x)) (pairs_at slots places) ≡ pairs_at slots (between front back places)
  pairs_in_span places front back l span =
      span_from front (back - front) places (let e : back ≡ front + (back - front) = omega (arith, l) in rw (sym e) span)

-- A span stays the same if the keys stay the same.
pub span_of_keys : {K : Type 0} (test : K → Bool) (f g : ℕ → Option K) (places : List ℕ) (front back : ℕ) → ((p : ℕ) → f p ≡ g p) → IsSpan test f places front back → IsSpan test g places front back
span_of_keys test f g places front back same span =
    record {
      before = λ i p k l at has. span.before i p k l at (same p ∙ has);
      inside = λ i p k l m at has. span.inside i p k l m at (same p ∙ has);
      after = λ i p k l at has. span.after i p k l at (same p ∙ has);
    }

-- Each place with a key has a pair.
pub live_places : {P K : Type 0} (slots : List (Option P)) (f : ℕ → Option K) (order : K → K → Ordering) (places : List ℕ) → ((p : ℕ) → is_some (f p) ≡ is_some (pair_at slots p)) → Ascends f order places → All (IsLive slots) places
live_places slots f order places same up k d inside =
    sym (same (get_or places k d)) ∙ subst (λ p. IsSome (f p)) (get_or_default places k 0 d inside) (up.live k inside)

pub is_some-map : {P K : Type 0} (key : P → K) (o : Option P) → is_some (option_map key o) ≡ is_some o
is_some-map key None = refl
is_some-map key (Some x) = refl

pub All-between : {X : Type 0} (Q : X → Type 0) (xs : List X) (i j : ℕ) → j ≤ length xs → All Q xs → All Q (between i j xs)
All-between Q xs i j within all k d l =
    let inside = length-between xs i j within in
    subst Q (sym (get_or-between xs i j k d (omega (arith, l, inside)))) (all (i + k) d (omega (arith, l, inside, within)))

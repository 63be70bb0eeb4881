-- What a table guarantees about its store and its indexes after a write at one place.
use Rattle.std.proofs.Common.{◌≡◌, ◌≢◌, ℕ, ◌<◌, ◌≤◌, Bool, true, false, List, length, Option, Some, None, arith}
use Rattle.std.specs.Prelude.{IsSomeAnd, MatchBool, MatchOption, is_some, slice_set}
use Rattle.std.specs.Cmp.{IsEquivalence}
use Rattle.std.proofs.lemmas.Grind.{merely}
use Rattle.std.proofs.lemmas.List.{length-set}
use Rattle.bimap_base.specs.Places.{pairs_in}
use Rattle.bimap_base.specs.Sets.{shares, IsApart}
use Rattle.bimap_base.specs.Slots.{pair_at}
use Rattle.bimap_index.specs.Listed.{IsWithout, IsAlike, MayLink}
use Rattle.bimap_core.proofs.Linking.{keys_in, alike_put, taken_without, may_over}
use Rattle.bimap_core.proofs.Places.{fits_in, live_within, apart_set, apart_taken}

module _ {L R : Type 0} where
  -- The invariants of a table: those of this store, one fact for each index, and enough cells in each index.
  abbrev pub AreFacts : (L → L → Bool) → (R → R → Bool) → List (Option (L × R)) → Type 0 → Type 0 → ℕ → ℕ → Type 0
  AreFacts same_left same_right slots LeftLists RightLists left_cells right_cells = record {
    left_listing : ∥ LeftLists ∥₁;
    right_listing : ∥ RightLists ∥₁;
    left_cells : length slots ≤ left_cells;
    right_cells : length slots ≤ right_cells;
    apart : IsApart same_left same_right (pairs_in slots);
    fits : length (pairs_in slots) ≤ length slots;
  }

  module _ {same_left : L → L → Bool} {same_right : R → R → Bool} (lefts : IsEquivalence same_left) (rights : IsEquivalence same_right) (slots : List (Option (L × R))) (place : ℕ) (inside : place < length slots) (apart : IsApart same_left same_right (pairs_in slots)) {LeftLists RightLists : Type 0} {left_cells right_cells : ℕ} (left : LeftLists) (right : RightLists) (in_left : length slots ≤ left_cells) (in_right : length slots ≤ right_cells) where
    pub facts_put : (pair : L × R) → ((other : ℕ) (p : L × R) → other ≢ place → pair_at slots other ≡ Some p → shares same_left same_right p pair ≡ false) → AreFacts same_left same_right (slice_set slots place (Some pair)) LeftLists RightLists left_cells right_cells
    facts_put pair alone = record {
      left_listing = merely left;
      right_listing = merely right;
      left_cells = omega (arith, length-set slots place (Some pair));
      right_cells = omega (arith, length-set slots place (Some pair));
      apart = apart_set same_left same_right lefts rights slots place pair inside alone apart;
      fits = fits_in (slice_set slots place (Some pair));
    }

  -- The invariants after the pair of a place was removed from the store and from both indexes.
  pub facts_taken : {same_left : L → L → Bool} {same_right : R → R → Bool} → IsEquivalence same_left → IsEquivalence same_right → (slots : List (Option (L × R))) (place : ℕ) (p : L × R) → pair_at slots place ≡ Some p → IsApart same_left same_right (pairs_in slots) → (LeftLists : (ℕ → Option L) → Type 0) (RightLists : (ℕ → Option R) → Type 0) → ((f : ℕ → Option L) → IsWithout f (keys_in (λ p. p.0) slots) place → LeftLists f) → ((f : ℕ → Option R) → IsWithout f (keys_in (λ p. p.1) slots) place → RightLists f)
      → (left_cells right_cells : ℕ) → length slots ≤ left_cells → length slots ≤ right_cells → AreFacts same_left same_right (slice_set slots place None) (LeftLists (keys_in (λ p. p.0) (slice_set slots place None))) (RightLists (keys_in (λ p. p.1) (slice_set slots place None))) left_cells right_cells
  facts_taken {same_left} {same_right} lefts rights slots place p was apart LeftLists RightLists left right left_cells right_cells in_left in_right =
      let inside = live_within slots place p was in
      record {
        left_listing = merely (left _ (taken_without (λ p. p.0) same_left slots place inside));
        right_listing = merely (right _ (taken_without (λ p. p.1) same_right slots place inside));
        left_cells = omega (arith, length-set slots place None);
        right_cells = omega (arith, length-set slots place None);
        apart = apart_taken same_left same_right lefts rights slots place inside apart;
        fits = fits_in (slice_set slots place None);
      }

-- What `relist` requires after a pair was overwritten.
-- With a spot of a new key, the place may be listed.
-- Without a spot, the index still lists the side.
pub may_relist : {P K X Spot : Type 0} (key : P → K) {same : K → K → Bool} → IsEquivalence same → {IsListing : X → (ℕ → Option K) → Type 0} → ((index : X) (f g : ℕ → Option K) → ((p : ℕ) → IsAlike same (f p) (g p)) → IsListing index f → IsListing index g) → (IsFor : X → K → Spot → Type 0) (was now : X) (slots : List (Option P)) (place : ℕ) (old p : P) (spot : Option Spot)
    → pair_at slots place ≡ Some old → ((other : ℕ) (q : P) → other ≢ place → pair_at slots other ≡ Some q → same (key q) (key p) ≡ false) → MatchOption spot (IsSomeAnd (pair_at slots place) (λ q. same (key q) (key p) ≡ true)) (IsFor was (key p))
    → ((k : K) (s : Spot) → IsFor was k s → IsFor now k s) → MatchBool (is_some spot) ((f : ℕ → Option K) → IsWithout f (keys_in key slots) place → IsListing now f) (IsListing now (keys_in key slots))
    → MatchOption spot (IsListing now (keys_in key (slice_set slots place (Some p)))) (λ s. (k : K) × MayLink IsListing same now (keys_in key (slice_set slots place (Some p))) place k × IsFor now k s)
may_relist key {same} equal {IsListing} respects IsFor was now slots place old p (Some spot) there alone spotted kept off =
    let inside = live_within slots place old there in
    (key p, may_over key same slots place IsListing now p inside alone (off (keys_in key (slice_set slots place None)) (taken_without key same slots place inside)), kept (key p) spot spotted)
may_relist key {same} equal respects IsFor was now slots place old p None there alone alike kept off =
    respects now (keys_in key slots) (keys_in key (slice_set slots place (Some p))) (alike_put key same slots place equal old p (live_within slots place old there) there (rw there at alike)) off

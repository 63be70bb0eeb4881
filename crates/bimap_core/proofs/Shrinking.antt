-- A store whose pairs are moved to the first places, and its indexes.
use Rattle.std.proofs.Common.{◌≡◌, ◌≢◌, ◌↔◌, ℕ, zero, suc, ◌≤◌, List, [], ◌∷◌, ◌++◌, length, map, replicate, Bool, true, Option, Some, None, IsSome, refl, sym, ap, subst, ◌∙◌, ◌||◌, arith}
use Rattle.std.specs.List.{AllPairs, Contains}
use Rattle.std.specs.Option.{option_map}
use Rattle.std.specs.Cmp.{IsEquivalence}
use Rattle.bimap_base.specs.Places.{pairs_in, compacted}
use Rattle.bimap_base.specs.PairsAt.{pairs_at}
use Rattle.bimap_base.specs.Sets.{IsApart}
use Rattle.bimap_base.specs.Slots.{pair_at, left_at, pair_count}
use Rattle.bimap_base.proofs.Apart.{apart_unique}
use Rattle.bimap_base.proofs.Members.{head_in, more_in}
use Rattle.bimap_base.proofs.Compaction.{counted_in, length-compacted}
use Rattle.bimap_base.proofs.Walk.{IsWalk, walk_of, walked, listed_long}
use Rattle.bimap_index.proofs.Compaction.{keys_at, keys_in}

module _ {P : Type 0} where
  compacted_first : (ps : List P) (k : ℕ) → pairs_in (map Some ps ++ replicate k None) ≡ ps
  compacted_first [] zero = refl
  compacted_first [] (suc k) = compacted_first [] k
  compacted_first (p ∷ ps) k = ap (λ z. p ∷ z) (compacted_first ps k)

  -- The compacted store has the same pairs.
  pub pairs_compacted : (ps : List P) (to : ℕ) → pairs_in (compacted ps to) ≡ ps
  pairs_compacted ps to = compacted_first ps _

  module _ (slots : List (Option P)) (to : ℕ) (fits : pair_count slots ≤ to) where
    -- The compacted store has this number of places.
    pub long_compacted : length (compacted (pairs_in slots) to) ≡ to
    long_compacted = length-compacted (pairs_in slots) to (omega (arith, fits, counted_in slots))

    -- An index lists no more places than that.
    pub places_fit : {K : Type 0} (key : P → K) (places : List ℕ) → ((place : ℕ) → Contains places place ↔ IsSome (option_map key (pair_at slots place))) → AllPairs (λ a b. a ≢ b) places → length places ≤ to
    places_fit key places listed distinct = omega (arith, fits, counted_in slots, listed_long slots places (walk_of key slots places listed distinct))

module _ {P K : Type 0} (key : P → K) where
  -- The keys of an iteration are the keys of its pairs.
  pub keys_walked : (slots : List (Option P)) (places : List ℕ) → pairs_at (map (option_map key) slots) places ≡ map key (pairs_at slots places)
  keys_walked slots [] = refl
  keys_walked slots (q ∷ qs) = by (pair_at slots q) refl (keys_walked slots qs)
    where
      by : (o : Option P) → pair_at slots q ≡ o → pairs_at (map (option_map key) slots) qs ≡ map key (pairs_at slots qs) → pairs_at (map (option_map key) slots) (q ∷ qs) ≡ map key (pairs_at slots (q ∷ qs))
      by None e rest = let at : pair_at (map (option_map key) slots) q ≡ None = sym (keys_at key slots q) ∙ ap (option_map key) e in rw (at, e) rest
      by (Some x) e rest = let at : pair_at (map (option_map key) slots) q ≡ Some (key x) = sym (keys_at key slots q) ∙ ap (option_map key) e in rw (at, e) (ap (λ z. key x ∷ z) rest)

  -- If a key determines its pair, two lists of pairs with the same keys are the same.
  same_by_key : (ps qs : List P) → ((p q : P) → Contains ps p → Contains qs q → key p ≡ key q → p ≡ q) → map key ps ≡ map key qs → ps ≡ qs
  same_by_key [] [] told e = refl
  same_by_key [] (q ∷ qs) told e = absurd (cc)
  same_by_key (p ∷ ps) [] told e = absurd (cc)
  same_by_key (p ∷ ps) (q ∷ qs) told e =
      let head : key p ≡ key q = cc in
      let tail : map key ps ≡ map key qs = cc in
      ap (λ z. z ∷ ps) (told p q (head_in p ps) (head_in q qs) head) ∙ ap (λ z. q ∷ z) (same_by_key ps qs (λ a b c d. told a b (more_in p ps a c) (more_in q qs b d)) tail)

-- If pairs moved and iteration visits their keys in the same order as before, it visits the pairs in the same order
-- too.
pub walk_kept : {L R X : Type 0} {same_left : L → L → Bool} {same_right : R → R → Bool} → IsEquivalence same_left → IsEquivalence same_right → (IsListing : X → (ℕ → Option L) → Type 0) (places : X → List ℕ)
    → (slots slots' : List (Option (L × R))) (index index' : X)
    → ((keys moved : List (Option L)) → IsListing index (pair_at keys) → IsListing index' (pair_at moved) → pairs_in moved ≡ pairs_in keys → pairs_at moved (places index') ≡ pairs_at keys (places index))
    → IsListing index (left_at slots) → IsListing index' (left_at slots') → IsWalk slots (places index) → IsWalk slots' (places index')
    → IsApart same_left same_right (pairs_in slots) → pairs_in slots' ≡ pairs_in slots → pairs_at slots' (places index') ≡ pairs_at slots (places index)
walk_kept {L} {R} {X} {same_left} {same_right} equal_left equal_right IsListing places slots slots' index index' alike listing listing' walk walk' apart same =
    same_by_key (λ p. p.0) (pairs_at slots' (places index')) (pairs_at slots (places index)) told
    (sym (keys_walked (λ p. p.0) slots' (places index')) ∙ alike (map (option_map (λ p. p.0)) slots) (map (option_map (λ p. p.0)) slots')
    (subst (IsListing index) (λ i place. keys_at (λ p. p.0) slots place i) listing)
    (subst (IsListing index') (λ i place. keys_at (λ p. p.0) slots' place i) listing')
    (keys_in (λ p. p.0) slots' ∙ ap (map (λ p. p.0)) same ∙ sym (keys_in (λ p. p.0) slots))
    ∙ keys_walked (λ p. p.0) slots (places index))
  where
    told : (p q : L × R) → Contains (pairs_at slots' (places index')) p → Contains (pairs_at slots (places index)) q → p.0 ≡ q.0 → p ≡ q
    told p q c d e =
        let first = subst (λ ps. Contains ps p) same ((walked slots' (places index') walk' p).1 c) in
        let second = (walked slots (places index) walk q).1 d in
        let equal : same_left p.0 q.0 ≡ true = ap (same_left p.0) (sym e) ∙ equal_left.refl p.0 in
        apart_unique same_left same_right equal_left equal_right (pairs_in slots) p q apart first second (ap (λ b. b || same_right p.1 q.1) equal)

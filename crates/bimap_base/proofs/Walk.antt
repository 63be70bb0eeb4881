-- The pairs at listed places. If each place with a pair is listed once, they are the pairs of the store in the order of the list.
use Rattle.std.proofs.Common.{◌≡◌, ◌≢◌, ◌↔◌, ◌⊎◌, ℕ, zero, suc, ◌<◌, ◌≤◌, Bool, false, List, [], ◌∷◌, length, get_or, Option, Some, None, is_some, IsSome, refl, sym, ap, subst, ◌∙◌, inl, inr, arith, true≢false}
use Rattle.std.specs.Prelude.{slice_set}
use Rattle.std.specs.List.{AllPairs, Contains}
use Rattle.std.specs.Option.{option_map}
use Rattle.std.proofs.lemmas.Bool.{cases_eq}
use Rattle.std.proofs.lemmas.List.{get_or-set_other}
use Rattle.bimap_base.specs.Sets.{IsSameSet, shares, IsApart}
use Rattle.bimap_base.specs.Slots.{pair_at, IsLive, pair_count}
use Rattle.bimap_base.specs.Places.{pairs_in}
use Rattle.bimap_base.specs.PairsAt.{pairs_at}
use Rattle.bimap_base.proofs.Members.{head_in, more_in, cases_in, none_in, AllPairs-head, AllPairs-tail}
use Rattle.bimap_base.proofs.Compaction.{counted_in}

module _ {P : Type 0} where
  -- Each place with a pair is listed once, and no other place is listed.
  pub record IsWalk (slots : List (Option P)) (places : List ℕ) : Type 0 where
    pub live : (place : ℕ) → Contains places place ↔ IsLive slots place
    pub distinct : AllPairs (λ a b. a ≢ b) places

  -- The pair at a place is one of the pairs of the store.
  pub held_at : (slots : List (Option P)) (place : ℕ) (p : P) → pair_at slots place ≡ Some p → Contains (pairs_in slots) p
  held_at [] place p i = cc
  held_at (None ∷ slots) zero p i = cc
  held_at (None ∷ slots) (suc place) p i = held_at slots place p i
  held_at (Some q ∷ slots) zero p i = (0, omega arith, let j : q ≡ p = cc in j)
  held_at (Some q ∷ slots) (suc place) p i = more_in q (pairs_in slots) p (held_at slots place p i)

  -- Each pair of the store is at some place.
  pub place_of : (slots : List (Option P)) (p : P) → Contains (pairs_in slots) p → (place : ℕ) × (pair_at slots place ≡ Some p)
  place_of [] p c = none_in p c
  place_of (None ∷ slots) p c = let r = place_of slots p c in (suc r.0, r.1)
  place_of (Some q ∷ slots) p c =
      elim (cases_in q (pairs_in slots) p c) [
        | inl e ↦ (0, ap Some e)
        | inr d ↦ let r = place_of slots p d in (suc r.0, r.1)
      ]

  pub listed_at : (slots : List (Option P)) (places : List ℕ) (place : ℕ) (p : P) → Contains places place → pair_at slots place ≡ Some p → Contains (pairs_at slots places) p
  listed_at slots [] place p c i = none_in place c
  listed_at slots (q ∷ qs) place p c i = by (pair_at slots q) refl (cases_in q qs place c) (λ d. listed_at slots qs place p d i)
    where
      by : (o : Option P) → pair_at slots q ≡ o → (q ≡ place) ⊎ Contains qs place → (Contains qs place → Contains (pairs_at slots qs) p) → Contains (pairs_at slots (q ∷ qs)) p
      by None e (inl same) rest = absurd (let f : Some p ≡ None = sym i ∙ ap (pair_at slots) (sym same) ∙ e in cc)
      by None e (inr d) rest = rw e (rest d)
      by (Some x) e (inl same) rest = rw e (0, omega arith, let f : Some x ≡ Some p = sym e ∙ ap (pair_at slots) same ∙ i in cc)
      by (Some x) e (inr d) rest = rw e (more_in x (pairs_at slots qs) p (rest d))

  pub place_listed : (slots : List (Option P)) (places : List ℕ) (p : P) → Contains (pairs_at slots places) p → (place : ℕ) × (pair_at slots place ≡ Some p)
  place_listed slots [] p c = none_in p c
  place_listed slots (q ∷ qs) p c = by (pair_at slots q) refl (place_listed slots qs p)
    where
      by : (o : Option P) → pair_at slots q ≡ o → (Contains (pairs_at slots qs) p → (place : ℕ) × (pair_at slots place ≡ Some p)) → (place : ℕ) × (pair_at slots place ≡ Some p)
      by None e rest = rest (rw e at c)
      by (Some x) e rest = elim (cases_in x (pairs_at slots qs) p (rw e at c)) [ inl same ↦ (q, e ∙ ap Some same) | inr d ↦ rest d ]

  -- The pair at an index is the pair at the place at this index.
  pub read_at : (slots : List (Option P)) (places : List ℕ) → ((place : ℕ) → Contains places place → IsLive slots place) → (i : ℕ) (d : ℕ) (x : P) → i < length places → pair_at slots (get_or places i d) ≡ Some (get_or (pairs_at slots places) i x)
  read_at slots [] live i d x inside = absurd (omega arith)
  read_at slots (q ∷ qs) live i d x inside = by (pair_at slots q) refl (live q (head_in q qs)) i inside (λ j. read_at slots qs (λ p c. live p (more_in q qs p c)) j d x)
    where
      by : (o : Option P) → pair_at slots q ≡ o → IsSome o → (i : ℕ) → i < suc (length qs) → ((j : ℕ) → j < length qs → pair_at slots (get_or qs j d) ≡ Some (get_or (pairs_at slots qs) j x)) → pair_at slots (get_or (q ∷ qs) i d) ≡ Some (get_or (pairs_at slots (q ∷ qs)) i x)
      by None e some i inside rest = absurd (true≢false (sym some))
      by (Some y) e some zero inside rest = rw e refl
      by (Some y) e some (suc i) inside rest = rw e (rest i (omega arith))

  -- If each listed place has a pair, there are as many pairs as listed places.
  pub long_at : (slots : List (Option P)) (places : List ℕ) → ((place : ℕ) → Contains places place → IsLive slots place) → length (pairs_at slots places) ≡ length places
  long_at slots [] live = refl
  long_at slots (q ∷ qs) live = by (pair_at slots q) refl (live q (head_in q qs)) (long_at slots qs (λ p c. live p (more_in q qs p c)))
    where
      by : (o : Option P) → pair_at slots q ≡ o → IsSome o → length (pairs_at slots qs) ≡ length qs → length (pairs_at slots (q ∷ qs)) ≡ length (q ∷ qs)
      by None e some rest = absurd (true≢false (sym some))
      by (Some y) e some rest = rw e (ap suc rest)

  pub fits_in : (slots : List (Option P)) → length (pairs_in slots) ≤ length slots
  fits_in [] = omega arith
  fits_in (None ∷ slots) = omega (arith, fits_in slots)
  fits_in (Some p ∷ slots) = omega (arith, fits_in slots)

  pub nothing_in : (slots : List (Option P)) → ((place : ℕ) → pair_at slots place ≡ None) → pairs_in slots ≡ []
  nothing_in [] h = refl
  nothing_in (x ∷ slots) h =
      let e : x ≡ None = h 0 in subst (λ z. pairs_in (z ∷ slots) ≡ []) (sym e) (nothing_in slots (λ place. h (suc place)))

  fewer_in : (slots : List (Option P)) (place : ℕ) (p : P) → pair_at slots place ≡ Some p → suc (length (pairs_in (slice_set slots place None))) ≡ length (pairs_in slots)
  fewer_in [] place p i = absurd (cc)
  fewer_in (None ∷ slots) zero p i = absurd (cc)
  fewer_in (None ∷ slots) (suc place) p i = fewer_in slots place p i
  fewer_in (Some x ∷ slots) zero p i = refl
  fewer_in (Some x ∷ slots) (suc place) p i = ap suc (fewer_in slots place p i)

  pub some_at : (o : Option P) → IsSome o → (p : P) × (o ≡ Some p)
  some_at None some = absurd (true≢false (sym some))
  some_at (Some p) some = (p, refl)

  free_at : (o : Option P) → (IsSome o → ⊥) → o ≡ None
  free_at None never = refl
  free_at (Some p) never = absurd (never refl)

  -- As many places are listed as have a pair.
  pub listed_long : (slots : List (Option P)) (places : List ℕ) → IsWalk slots places → length places ≡ length (pairs_in slots)
  listed_long slots [] walk = sym (ap length (nothing_in slots (λ place. free_at (pair_at slots place) (λ some. none_in place ((walk.live place).1 some)))))
  listed_long slots (q ∷ qs) walk =
      let p = some_at (pair_at slots q) ((walk.live q).0 (head_in q qs)) in
      let rest = slice_set slots q None in
      let off : (place : ℕ) → place ≢ q → pair_at rest place ≡ pair_at slots place = λ place away. get_or-set_other slots q place None None away in
      let gone : pair_at rest q ≡ None = vacated slots q p.0 p.1 in
      ap suc (listed_long rest qs record {
        live = λ place. (
          λ c. subst IsSome (sym (off place (λ e. AllPairs-head (λ a b. a ≢ b) q qs walk.distinct place c (sym e)))) ((walk.live place).0 (more_in q qs place c)),
          λ some. elim (cases_eq place q) [
            | inl same ↦ absurd (true≢false (sym some ∙ ap (λ z. is_some (pair_at rest z)) same ∙ ap is_some gone))
            | inr away ↦ elim (cases_in q qs place ((walk.live place).1 (subst IsSome (off place away) some))) [
              | inl same ↦ absurd (away (sym same))
              | inr c ↦ c
            ]
          ],
        );
        distinct = AllPairs-tail (λ a b. a ≢ b) q qs walk.distinct;
      }) ∙ fewer_in slots q p.0 p.1
    where
      vacated : (slots : List (Option P)) (place : ℕ) (p : P) → pair_at slots place ≡ Some p → pair_at (slice_set slots place None) place ≡ None
      vacated [] place p i = absurd (cc)
      vacated (x ∷ slots) zero p i = refl
      vacated (x ∷ slots) (suc place) p i = vacated slots place p i

  module _ (slots : List (Option P)) (places : List ℕ) (walk : IsWalk slots places) where
    -- The pairs at the listed places are the pairs of the store.
    pub walked : IsSameSet (Contains (pairs_in slots)) (Contains (pairs_at slots places))
    walked p = (
      λ c. let a = place_of slots p c in listed_at slots places a.0 p ((walk.live a.0).1 (ap is_some a.1)) a.1,
      λ c. let a = place_listed slots places p c in held_at slots a.0 p a.1,
    )

    pub long_walked : length (pairs_at slots places) ≡ length (pairs_in slots)
    long_walked = long_at slots places (λ place. (walk.live place).0) ∙ listed_long slots places walk

    pub count_walked : length (pairs_at slots places) ≡ pair_count slots
    count_walked = long_walked ∙ sym (counted_in slots)

    pub fits_walked : length (pairs_at slots places) ≤ length slots
    fits_walked = omega (arith, long_walked, fits_in slots)

    -- A statement that is true of each place and each later place carries over to their pairs.
    pub pairs_walked : (S : ℕ → ℕ → Type 0) (T : P → P → Type 0) → ((a b : ℕ) (p q : P) → S a b → pair_at slots a ≡ Some p → pair_at slots b ≡ Some q → T p q) → AllPairs S places → AllPairs T (pairs_at slots places)
    pairs_walked S T step all i j d before inside =
        let long = long_at slots places (λ place. (walk.live place).0) in
        let read = read_at slots places (λ place. (walk.live place).0) in
        step (get_or places i 0) (get_or places j 0) _ _ (all i j 0 before (omega arith)) (read i 0 d (omega arith)) (read j 0 d (omega arith))

-- If the places with a key on one side are listed, the places with a pair are listed.
pub walk_of : {P K : Type 0} (key : P → K) (slots : List (Option P)) (places : List ℕ) → ((place : ℕ) → Contains places place ↔ IsSome (option_map key (pair_at slots place))) → AllPairs (λ a b. a ≢ b) places → IsWalk slots places
walk_of {P} {K} key slots places listed distinct = record { live = λ place. (λ c. keyed (pair_at slots place) ((listed place).0 c), λ some. (listed place).1 (live (pair_at slots place) some)); distinct = distinct }
  where
    keyed : (o : Option P) → IsSome (option_map key o) → IsSome o
    keyed None some = some
    keyed (Some p) some = refl

    live : (o : Option P) → IsSome o → IsSome (option_map key o)
    live None some = some
    live (Some p) some = refl

module _ {L R : Type 0} (same_left : L → L → Bool) (same_right : R → R → Bool) where
  -- The pairs at any two places share no value.
  abbrev pub AreApartAt : List (Option (L × R)) → Type 0
  AreApartAt slots =
      (a b : ℕ) (p q : L × R) → a ≢ b → pair_at slots a ≡ Some p → pair_at slots b ≡ Some q → shares same_left same_right p q ≡ false

  module _ (slots : List (Option (L × R))) (places : List ℕ) (walk : IsWalk slots places) where
    pub apart_walked : AreApartAt slots → IsApart same_left same_right (pairs_at slots places)
    apart_walked apart = pairs_walked slots places walk (λ a b. a ≢ b) (λ p q. shares same_left same_right p q ≡ false) apart walk.distinct

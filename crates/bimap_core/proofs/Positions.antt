-- The pairs of an iteration after one place is written, if the index lists places in the order in which they were
-- linked.
use Rattle.std.proofs.Common.{◌≡◌, ◌≢◌, ◌↔◌, ℕ, zero, suc, ◌+◌, ◌<◌, Bool, List, [], ◌∷◌, ◌++◌, length, true, false, Option, Some, None, is_some, IsSome, refl, sym, ap, subst, ◌∙◌, ◌⊎◌, inl, inr, add-one, arith, true≢false, Contains}
use Rattle.std.specs.Prelude.{slice_get, slice_set, IfSome, IsSomeAnd, MatchOption}
use Rattle.std.specs.List.{AllPairs}
use Rattle.std.specs.Option.{option_map}
use Rattle.std.proofs.lemmas.List.{get_or-set_other, get_or-set_same}
use Rattle.std.proofs.lemmas.Option.{get_or_from_slice_get, slice_get_within}
use Rattle.std.proofs.lemmas.List.Elements.{Contains-append_right, Contains-append_cases, filter_map-append}
use Rattle.bimap_base.specs.PairsAt.{pairs_at}
use Rattle.bimap_base.specs.Places.{pairs_in}
use Rattle.bimap_base.specs.Slots.{pair_at, left_at}
use Rattle.bimap_base.proofs.Members.{AllPairs-head, AllPairs-tail, cases_in, head_in, more_in, none_in}
use Rattle.bimap_base.specs.Positions.{ComesLast, IsReplaced, IsTakenOut, StandsFor, StandsUndone}
use Rattle.bimap_base.specs.declared.overwritten.Overwritten.{Overwritten}
use Rattle.bimap_base.specs.declared.overwritten.Overwritten.TheVariants.{Left, Right, Pair}
use Rattle.bimap_base.proofs.Walk.{IsWalk, walk_of}
use Rattle.bimap_core.proofs.Places.{live_within}
use Rattle.bimap_index.specs.ByHash.{ListsByHash, places_from}
use Rattle.bimap_index.specs.ByInsertion.{ListsByInsertion}
use Rattle.bimap_index.specs.HashLaws.{hash_settled, hash_listed, hash_distinct, hash_by_place, pairs_by_place}
use Rattle.bimap_index.specs.InsertionLaws.{insertion_settled}

-- If a list contains an element, the element has a position between the elements before it and after it.
parted : {X : Type 0} (xs : List X) (x : X) → Contains xs x → (before : List X) × (after : List X) × (xs ≡ before ++ x ∷ after)
parted [] x c = none_in x c
parted (y ∷ ys) x c =
    elim (cases_in y ys x c) [
      | inl same ↦ ([], ys, ap (λ z. z ∷ ys) same)
      | inr d ↦ let r = parted ys x d in (y ∷ r.0, r.1, ap (λ zs. y ∷ zs) r.2)
    ]

-- If the elements are distinct, the element is not among those before it or after it.
around : {X : Type 0} (before after : List X) (x : X) → AllPairs (λ a b. a ≢ b) (before ++ x ∷ after) → (Contains before x → ⊥) × (Contains after x → ⊥)
around [] after x distinct = (λ c. none_in x c, λ c. AllPairs-head (λ a b. a ≢ b) x after distinct x c refl)
around (y ∷ ys) after x distinct =
    let rest = around ys after x (AllPairs-tail (λ a b. a ≢ b) y (ys ++ x ∷ after) distinct) in
    (λ c. elim (cases_in y ys x c) [ inl same ↦ AllPairs-head (λ a b. a ≢ b) y (ys ++ x ∷ after) distinct x (Contains-append_right ys (x ∷ after) x (head_in x after)) same | inr d ↦ rest.0 d ], rest.1)

module _ {X : Type 0} (x : X) where
  same_around : (b a c d : List X) → AllPairs (λ p q. p ≢ q) (b ++ x ∷ a) → b ++ x ∷ a ≡ c ++ x ∷ d → b ++ a ≡ c ++ d
  same_around [] a [] d all e = cc
  same_around [] a (z ∷ c) d all e =
      let t : a ≡ c ++ x ∷ d = cc in
      absurd (AllPairs-head (λ p q. p ≢ q) x a all x (subst (λ ys. Contains ys x) (sym t) (Contains-append_right c (x ∷ d) x (head_in x d))) refl)
  same_around (y ∷ b) a [] d all e =
      let s : y ≡ x = cc in
      absurd (AllPairs-head (λ p q. p ≢ q) y (b ++ x ∷ a) all x (Contains-append_right b (x ∷ a) x (head_in x a)) s)
  same_around (y ∷ b) a (z ∷ c) d all e =
      let t : b ++ x ∷ a ≡ c ++ x ∷ d = cc in
      let r = same_around b a c d (AllPairs-tail (λ p q. p ≢ q) y (b ++ x ∷ a) all) t in
      cc

  next_around : (b a : List X) (k : ℕ) → AllPairs (λ p q. p ≢ q) (b ++ x ∷ a) → slice_get (b ++ x ∷ a) k ≡ Some x → slice_get (b ++ a) k ≡ slice_get (b ++ x ∷ a) (suc k)
  next_around [] a zero all is = refl
  next_around [] a (suc k) all is = absurd (AllPairs-head (λ p q. p ≢ q) x a all x (k, slice_get_within a k x is, get_or_from_slice_get a k x x is) refl)
  next_around (y ∷ b) a zero all is =
      let s : y ≡ x = cc in
      absurd (AllPairs-head (λ p q. p ≢ q) y (b ++ x ∷ a) all x (Contains-append_right b (x ∷ a) x (head_in x a)) s)
  next_around (y ∷ b) a (suc k) all is = next_around b a k (AllPairs-tail (λ p q. p ≢ q) y (b ++ x ∷ a) all) is

  module _ (old new : List X) (distinct : AllPairs (λ p q. p ≢ q) old) (out : IsTakenOut old x new) where
    there : AllPairs (λ p q. p ≢ q) (out.before ++ x ∷ out.after)
    there = subst (AllPairs (λ p q. p ≢ q)) out.stood distinct

    -- If the elements are distinct, all ways to part the list at one element leave the same other elements.
    pub out_between : (before after : List X) → old ≡ before ++ x ∷ after → new ≡ before ++ after
    out_between before after is = out.left ∙ same_around out.before out.after before after there (sym out.stood ∙ is)

    -- The element after the removed one now has the rank of the removed one.
    pub next_at_rank : (rank : ℕ) → slice_get old rank ≡ Some x → slice_get old (rank + 1) ≡ slice_get new rank
    next_at_rank rank is =
        ap (λ k. slice_get old k) (add-one rank) ∙ ap (λ xs. slice_get xs (suc rank)) out.stood
        ∙ sym (next_around out.before out.after rank there (sym (ap (λ xs. slice_get xs rank) out.stood) ∙ is))
        ∙ ap (λ xs. slice_get xs rank) (sym out.left)

module _ {P : Type 0} (slots : List (Option P)) (place : ℕ) where
  abbrev written : Option P → List (Option P)
  written x = slice_set slots place x

  -- Iteration shows at all other places what was there before.
  shown : (x : Option P) (places : List ℕ) → (Contains places place → ⊥) → pairs_at (written x) places ≡ pairs_at slots places
  shown x [] absent = refl
  shown x (q ∷ qs) absent =
      let here : pair_at (written x) q ≡ pair_at slots q = get_or-set_other slots place q x None (λ e. absent (subst (Contains (q ∷ qs)) e (head_in q qs))) in
      by (pair_at slots q) refl here (shown x qs (λ c. absent (more_in q qs place c)))
    where
      by : (o : Option P) → pair_at slots q ≡ o → pair_at (written x) q ≡ pair_at slots q → pairs_at (written x) qs ≡ pairs_at slots qs → pairs_at (written x) (q ∷ qs) ≡ pairs_at slots (q ∷ qs)
      by None e here rest = rw (here, e) rest
      by (Some p) e here rest = rw (here, e) (ap (λ ps. p ∷ ps) rest)

  pub one : (slots : List (Option P)) (p : P) (places : List ℕ) → pair_at slots place ≡ Some p → pairs_at slots (place ∷ places) ≡ p ∷ pairs_at slots places
  one slots p places is = rw is refl

  -- If a place was linked last, its pair is the last one.
  pub shown_last : (p : P) (places places' : List ℕ) → place < length slots → (Contains places place → ⊥) → places' ≡ places ++ place ∷ [] → pairs_at (written (Some p)) places' ≡ pairs_at slots places ++ p ∷ []
  shown_last p places places' inside absent last =
      ap (pairs_at (written (Some p))) last ∙ filter_map-append (pair_at (written (Some p))) places (place ∷ [])
      ∙ ap (λ ps. ps ++ pairs_at (written (Some p)) (place ∷ [])) (shown (Some p) places absent)
      ∙ ap (λ ps. pairs_at slots places ++ ps) (one (written (Some p)) p [] (get_or-set_same slots place (Some p) None inside))

  module _ (q : P) (is : pair_at slots place ≡ Some q) (places : List ℕ) (distinct : AllPairs (λ a b. a ≢ b) places) where
    pub stood_between : (before after : List ℕ) → places ≡ before ++ place ∷ after → pairs_at slots places ≡ pairs_at slots before ++ q ∷ pairs_at slots after
    stood_between before after stood =
        ap (pairs_at slots) stood ∙ filter_map-append (pair_at slots) before (place ∷ after) ∙ ap (λ ps. pairs_at slots before ++ ps) (one slots q after is)

    -- A pair that overwrites another one gets its position.
    pub shown_instead : (p : P) (places' : List ℕ) → Contains places place → places' ≡ places → IsReplaced (pairs_at slots places) q p (pairs_at (written (Some p)) places')
    shown_instead p places' has same =
        let r = parted places place has in
        let off = around r.0 r.1 place (subst (AllPairs (λ a b. a ≢ b)) r.2 distinct) in
        record {
          before = pairs_at slots r.0;
          after = pairs_at slots r.1;
          stood = stood_between r.0 r.1 r.2;
          stands = ap (pairs_at (written (Some p))) (same ∙ r.2) ∙ filter_map-append (pair_at (written (Some p))) r.0 (place ∷ r.1)
              ∙ ap (λ ps. ps ++ pairs_at (written (Some p)) (place ∷ r.1)) (shown (Some p) r.0 off.0)
              ∙ ap (λ ps. pairs_at slots r.0 ++ ps) (one (written (Some p)) p r.1 (get_or-set_same slots place (Some p) None (live_within slots place q is)) ∙ ap (λ ps. p ∷ ps) (shown (Some p) r.1 off.1));
        }

    -- Without the place, iteration shows the pairs before it and those after it.
    pub left_between : (x : Option P) (rest before after : List ℕ) → places ≡ before ++ place ∷ after → rest ≡ before ++ after → pairs_at (written x) rest ≡ pairs_at slots before ++ pairs_at slots after
    left_between x rest before after stood left =
        let off = around before after place (subst (AllPairs (λ a b. a ≢ b)) stood distinct) in
        ap (pairs_at (written x)) left ∙ filter_map-append (pair_at (written x)) before after
        ∙ ap (λ ps. ps ++ pairs_at (written x) after) (shown x before off.0)
        ∙ ap (λ ps. pairs_at slots before ++ ps) (shown x after off.1)

    pub shown_without : (x : Option P) (rest : List ℕ) → IsTakenOut places place rest → IsTakenOut (pairs_at slots places) q (pairs_at (written x) rest)
    shown_without x rest out =
        record {
          before = pairs_at slots out.before;
          after = pairs_at slots out.after;
          stood = stood_between out.before out.after out.stood;
          left = left_between x rest out.before out.after out.stood out.left;
        }

    absent_after : (rest : List ℕ) → IsTakenOut places place rest → Contains rest place → ⊥
    absent_after rest out c =
        let off = around out.before out.after place (subst (AllPairs (λ a b. a ≢ b)) out.stood distinct) in
        elim (Contains-append_cases out.before out.after place (subst (λ ps. Contains ps place) out.left c)) [ inl d ↦ off.0 d | inr d ↦ off.1 d ]

    -- If a place was relinked, its new pair is the last one.
    pub shown_anew : (p : P) (places' : List ℕ) → ComesLast places place place places' → ComesLast (pairs_at slots places) q p (pairs_at (written (Some p)) places')
    shown_anew p places' moved =
        record {
          rest = pairs_at slots moved.rest;
          out = subst (IsTakenOut (pairs_at slots places) q) (shown (Some p) moved.rest (absent_after moved.rest moved.out)) (shown_without (Some p) moved.rest moved.out);
          last = shown_last p moved.rest places' (live_within slots place q is) (absent_after moved.rest moved.out) moved.last;
        }

-- A free place is not listed.
pub free_absent : {P : Type 0} (slots : List (Option P)) (places : List ℕ) → IsWalk slots places → (place : ℕ) → pair_at slots place ≡ None → Contains places place → ⊥
free_absent slots places walk place free c = true≢false (sym ((walk.live place).0 c) ∙ ap is_some free)

-- A place with a pair is listed.
pub live_listed : {P : Type 0} (slots : List (Option P)) (places : List ℕ) → IsWalk slots places → (place : ℕ) (p : P) → pair_at slots place ≡ Some p → Contains places place
live_listed slots places walk place p is = (walk.live place).1 (ap is_some is)

-- An index lists the places of an iteration.
pub the_walk : {P K X : Type 0} (key : P → K) (IsListing : X → (ℕ → Option K) → Type 0) (places : X → List ℕ)
    → ((index : X) (f : ℕ → Option K) → IsListing index f → (p : ℕ) → Contains (places index) p ↔ IsSome (f p))
    → ((index : X) (f : ℕ → Option K) → IsListing index f → AllPairs (λ a b. a ≢ b) (places index))
    → ((index : X) (f : ℕ → Option K) → ∥ IsListing index f ∥₁ → IsListing index f)
    → (slots : List (Option P)) (index : X) → ∥ IsListing index (λ place. option_map key (pair_at slots place)) ∥₁ → IsWalk slots (places index)
the_walk key IsListing places listed distinct settled slots index listing =
    let lists = settled index (λ place. option_map key (pair_at slots place)) listing in
    walk_of key slots (places index) (listed index _ lists) (distinct index _ lists)

-- An index in insertion order lists the places of its list.
pub insertion_walk : {P K X : Type 0} (key : P → K) (same : K → K → Bool) (IsListing : X → (ℕ → Option K) → Type 0) → ((index : X) (f : ℕ → Option K) → ∥ IsListing index f ∥₁ → IsListing index f)
    → (slots : List (Option P)) (index : X) (places : List ℕ) → ∥ ListsByInsertion IsListing index places (λ place. option_map key (pair_at slots place)) ∥₁ → IsWalk slots places
insertion_walk key same IsListing settled slots index places h =
    let listing = insertion_settled same IsListing settled index places (λ place. option_map key (pair_at slots place)) h in
    walk_of key slots places listing.lists listing.distinct

-- Iteration by a hashed index goes by place.
pub hash_walk : {P K : Type 0} (key : P → K) {same : K → K → Bool} {number : K → ℕ} (slots : List (Option P)) (numbers : List (Option ℕ)) → ∥ ListsByHash same number numbers (λ place. option_map key (pair_at slots place)) ∥₁ → pairs_at slots (places_from 0 numbers) ≡ pairs_in slots
hash_walk {P} {K} key {same} {number} slots numbers h =
    let side : ℕ → Option K = λ place. option_map key (pair_at slots place) in
    let listing = hash_settled same number numbers side h in
    let walk = walk_of key slots (places_from 0 numbers) (hash_listed same number numbers side listing) (hash_distinct same number numbers side listing) in
    pairs_by_place slots (places_from 0 numbers) (hash_by_place same number numbers side listing) walk.live

-- If the places kept their pairs and their order, iteration shows the same pairs.
pub pairs_kept : {P : Type 0} (old new : List (Option P)) (places places' : List ℕ) → ((place : ℕ) → pair_at new place ≡ pair_at old place) → places' ≡ places → pairs_at new places' ≡ pairs_at old places
pairs_kept {P} old new places places' kept same = ap (pairs_at new) same ∙ each places
  where
    each : (places : List ℕ) → pairs_at new places ≡ pairs_at old places
    each [] = refl
    each (p ∷ ps) = by (pair_at old p) refl (each ps)
      where
        by : (o : Option P) → pair_at old p ≡ o → pairs_at new ps ≡ pairs_at old ps → pairs_at new (p ∷ ps) ≡ pairs_at old (p ∷ ps)
        by None e rest = rw (kept p, e) rest
        by (Some x) e rest = rw (kept p, e) (ap (λ xs. x ∷ xs) rest)

-- A place has a spot exactly if its new left is unequal to the old one.
-- With a spot, the place comes last.
-- Without a spot, it keeps its position.
-- The equality of the lefts therefore decides where the place stands.
pub renewed : {L R Spot Shown : Type 0} (same : L → L → Bool) (slots : List (Option (L × R))) (place : ℕ) (pair : L × R) → pair_at slots place ≡ Some pair → (left : L) (is_for : Spot → Type 0) (spot : Option Spot) (shown : Option Shown) → is_some shown ≡ is_some spot
    → MatchOption spot (IsSomeAnd (left_at slots place) (λ k. same k left ≡ true)) is_for → IfSome spot (λ _. IsSomeAnd (left_at slots place) (λ k. same k left ≡ false))
    → (Stands Comes : Type 0) → MatchOption shown Stands (λ _. Comes) → (same pair.0 left ≡ true → Stands) × (same pair.0 left ≡ false → Comes)
renewed same slots place pair is left is_for None None e equal new Stands Comes h =
    let t = subst (λ o. IsSomeAnd (option_map (λ p. p.0) o) (λ k. same k left ≡ true)) is equal in
    (λ _. h, λ f. absurd (true≢false (sym t ∙ f)))
renewed same slots place pair is left is_for (Some s) (Some b) e equal new Stands Comes h =
    let f = subst (λ o. IsSomeAnd (option_map (λ p. p.0) o) (λ k. same k left ≡ false)) is new in
    (λ t. absurd (true≢false (sym t ∙ f)), λ _. h)
renewed same slots place pair is left is_for None (Some b) e equal new Stands Comes h = absurd (true≢false e)
renewed same slots place pair is left is_for (Some s) None e equal new Stands Comes h = absurd (true≢false (sym e))

module _ {L R : Type 0} (same : L → L → Bool) (old new : List (L × R)) (taken : L × R) where
  -- If the answer contains one pair, this pair takes the position of the pair that is removed.
  pub stands_one : (answer : Overwritten L R) (l : L) (r : R) → (answer ≡ Left l r) ⊎ ((answer ≡ Right l r) ⊎ (answer ≡ Pair l r)) → StandsFor same old taken (l, r) new → StandsUndone same old taken answer new
  stands_one answer l r (inl e) stands = rw e stands
  stands_one answer l r (inr (inl e)) stands = rw e stands
  stands_one answer l r (inr (inr e)) stands = rw e stands

-- Lists of places in the order of their keys.
use Rattle.std.proofs.Common.{◌≡◌, ◌≢◌, ℕ, suc, ◌+◌, ◌<◌, true, false, List, [], ◌∷◌, ◌++◌, length, Option, Some, None, refl, sym, ◌∙◌, ap, subst, arith, inl, inr}
use Rattle.std.specs.Prelude.{is_some, IsSome, slice_index}
use Rattle.std.specs.Cmp.{IsTotalOrder}
use Rattle.std.specs.List.{AllByRecursion, Contains}
use Rattle.std.specs.List.Sorted.{IsStrictlySortedBy}
use Rattle.std.specs.Ordering.{is_le, ordering_reverse}
use Rattle.std.specs.declared.cmp.Ordering.{Ordering}
use Rattle.std.specs.declared.cmp.Ordering.TheVariants.{Less, Equal, Greater}
use Rattle.std.proofs.lemmas.Map.Keys.{Less-from_sorted, sorted_head, sorted_tail}
use Rattle.std.proofs.lemmas.List.Elements.{All-from_recursion, recursion_from_All}
use Rattle.std.proofs.lemmas.Bool.Decides.{leb_tells}
use Rattle.std.proofs.lemmas.Cmp.{tied_itself}
use Rattle.std.proofs.lemmas.List.{get_or_default}
use Rattle.bimap_base.specs.Keyed.{standing, Ascends, Follows}
use Rattle.bimap_tree.specs.Order.{AllStand, IsSplit, after_key}
use Rattle.bimap_tree.proofs.Distinct.{all_front, all_behind, all_append, all_both}
use Rattle.bimap_tree.proofs.Split.{less_or_not}

-- ---- A statement that is true of each place of a list.
all_at : (P : ℕ → Type 0) (xs : List ℕ) → ((i : ℕ) → i < length xs → P (slice_index xs i)) → AllByRecursion P xs
all_at P xs h = recursion_from_All P xs (λ i d few. subst P (get_or_default xs i 0 d few) (h i few))

all_without : (P : ℕ → Type 0) (xs ys : List ℕ) (p : ℕ) → AllByRecursion P (xs ++ p ∷ ys) → AllByRecursion P (xs ++ ys)
all_without P xs ys p h = all_append P xs ys (all_front P xs (p ∷ ys) h) (all_behind P xs (p ∷ ys) h).1

all_with : (P : ℕ → Type 0) (xs ys : List ℕ) (p : ℕ) → P p → AllByRecursion P (xs ++ ys) → AllByRecursion P (xs ++ p ∷ ys)
all_with P xs ys p here h = all_append P xs (p ∷ ys) (all_front P xs ys h) (here, all_behind P xs ys h)

-- ---- Lists in strictly ascending order.
sorted_none : (c : ℕ → ℕ → Ordering) → IsStrictlySortedBy c []
unfolding IsStrictlySortedBy
sorted_none c = tt

sorted_more : (c : ℕ → ℕ → Ordering) (x : ℕ) (xs : List ℕ) → AllByRecursion (λ y. c x y ≡ Less) xs → IsStrictlySortedBy c xs → IsStrictlySortedBy c (x ∷ xs)
unfolding IsStrictlySortedBy
sorted_more c x xs a s = (a, s)

sorted_without : (c : ℕ → ℕ → Ordering) (xs ys : List ℕ) (p : ℕ) → IsStrictlySortedBy c (xs ++ p ∷ ys) → IsStrictlySortedBy c (xs ++ ys)
sorted_without c [] ys p s = sorted_tail c p ys s
sorted_without c (x ∷ xs) ys p s = sorted_more c x (xs ++ ys) (all_without (λ y. c x y ≡ Less) xs ys p (sorted_head c x (xs ++ p ∷ ys) s)) (sorted_without c xs ys p (sorted_tail c x (xs ++ p ∷ ys) s))

sorted_with : (c : ℕ → ℕ → Ordering) (xs ys : List ℕ) (p : ℕ) → AllByRecursion (λ x. c x p ≡ Less) xs → AllByRecursion (λ y. c p y ≡ Less) ys → IsStrictlySortedBy c (xs ++ ys) → IsStrictlySortedBy c (xs ++ p ∷ ys)
sorted_with c [] ys p a b s = sorted_more c p ys b s
sorted_with c (x ∷ xs) ys p a b s = sorted_more c x (xs ++ p ∷ ys) (all_with (λ y. c x y ≡ Less) xs ys p a.0 (sorted_head c x (xs ++ ys) s)) (sorted_with c xs ys p a.1 b (sorted_tail c x (xs ++ ys) s))

-- ---- The keys of places.
module _ {K : Type 0} (key : ℕ → Option K) (order : K → K → Ordering) where
  -- How the keys of two places compare.
  abbrev stand : ℕ → ℕ → Ordering
  stand p q = standing order (key p) (key q)

  pub key_is : (o : Option K) → IsSome o → (k : K) × (o ≡ Some k)
  key_is (Some k) some = (k, refl)
  key_is None some = absurd (let x : false ≡ true = some in cc)

  -- A listed place has a key.
  pub key_listed : (xs : List ℕ) → Ascends key order xs → (p : ℕ) → Contains xs p → (k : K) × (key p ≡ Some k)
  key_listed xs up p (i, few, e) =
      let here : slice_index xs i ≡ p = get_or_default xs i 0 p few ∙ e in
      key_is (key p) (subst (λ q. IsSome (key q)) here (up.live i few))

  stand_is : (a b : ℕ) (k l : K) → key a ≡ Some k → key b ≡ Some l → stand a b ≡ order k l
  stand_is a b k l e f = ap (λ o. standing order o (key b)) e ∙ ap (λ o. standing order (Some k) o) f

  ascends_tail : (x : ℕ) (xs : List ℕ) → Ascends key order (x ∷ xs) → Ascends key order xs
  ascends_tail x xs up = record {
    live = λ i few. up.live (suc i) (omega arith);
    rises = λ i j k l lt few. up.rises (suc i) (suc j) k l (omega arith) (omega arith);
  }

  pub live_all : (xs : List ℕ) → Ascends key order xs → AllByRecursion (λ q. IsSome (key q)) xs
  live_all xs up = all_at (λ q. IsSome (key q)) xs up.live

  pub rising : (xs : List ℕ) → Ascends key order xs → IsStrictlySortedBy stand xs
  rising [] up = sorted_none stand
  rising (x ∷ xs) up =
      let (k, is) = key_is (key x) (up.live 0 (omega arith)) in
      sorted_more stand x xs
      (all_at (λ y. stand x y ≡ Less) xs (λ i few.
      let (l, at) = key_is (key (slice_index xs i)) (up.live (suc i) (omega arith)) in
      stand_is x (slice_index xs i) k l is at ∙ up.rises 0 (suc i) k l (omega arith) (omega arith) is at))
      (rising xs (ascends_tail x xs up))

  ascends_from : (xs : List ℕ) → AllByRecursion (λ q. IsSome (key q)) xs → IsStrictlySortedBy stand xs → Ascends key order xs
  ascends_from xs live s = record {
    live = λ i few. All-from_recursion (λ q. IsSome (key q)) xs live i 0 few;
    rises = λ i j k l lt few e f. sym (stand_is (slice_index xs i) (slice_index xs j) k l e f) ∙ Less-from_sorted stand xs i j 0 s lt few;
  }

  -- A list from which a place was removed is still in order.
  pub ascends_without : (xs ys : List ℕ) (p : ℕ) → Ascends key order (xs ++ p ∷ ys) → Ascends key order (xs ++ ys)
  ascends_without xs ys p up =
      ascends_from (xs ++ ys)
      (all_without (λ q. IsSome (key q)) xs ys p (live_all (xs ++ p ∷ ys) up))
      (sorted_without stand xs ys p (rising (xs ++ p ∷ ys) up))

  -- ---- Comparisons with a query.
  module _ {Q : Type 0} (to : K → Q → Ordering) (follows : Follows order to) where
    -- If one key is not below the query, every key above it is above the query.
    above : (a b : Option K) (k : Q) → standing to a (Some k) ≢ Less → standing order a b ≡ Less → standing to b (Some k) ≡ Greater
    above a None k n h = refl
    above None (Some b) k n h = absurd (let x : Greater ≡ Less = h in cc)
    above (Some a) (Some b) k n h = by (to b k) refl
      where
        by : (o : Ordering) → to b k ≡ o → to b k ≡ Greater
        by Less e = absurd (n (follows k a b h (ap is_le e)))
        by Equal e = absurd (n (follows k a b h (ap is_le e)))
        by Greater e = e

    pub split : (k : Q) (xs : List ℕ) → Ascends key order xs → IsSplit (λ q. standing to (key q) (Some k)) xs
    split k [] up = tt
    split k (x ∷ xs) up =
        let less = sorted_head stand x xs (rising (x ∷ xs) up) in (
          elim (less_or_not (standing to (key x) (Some k))) [
            | inl w ↦ inl w
            | inr n ↦ inr (all_both (λ y. stand x y ≡ Less) (λ y. stand x y ≡ Less) (λ y. standing to (key y) (Some k) ≡ Greater) (λ y h _. above (key x) (key y) k n h) xs less less)
          ],
          split k xs (ascends_tail x xs up),
        )

    -- At most one place of a list has a key equal to the query.
    apart : (a b : Option K) (k : Q) → standing order a b ≡ Less → standing to a (Some k) ≡ Equal → standing to b (Some k) ≡ Equal → ⊥
    apart (Some a) (Some b) k less first second =
        let x : Less ≡ Equal = sym (follows k a b less (ap is_le second)) ∙ first in
        cc
    apart None b k less first second = let x : Greater ≡ Equal = first in cc
    apart (Some a) None k less first second = let x : Greater ≡ Equal = second in cc

    pub only_one : (xs : List ℕ) → Ascends key order xs → (k : Q) (p q : ℕ) → Contains xs p → Contains xs q → standing to (key p) (Some k) ≡ Equal → standing to (key q) (Some k) ≡ Equal → p ≡ q
    only_one xs up k p q (i, few, e) (j, less, f) a b =
        let here : slice_index xs i ≡ p = get_or_default xs i 0 p few ∙ e in
        let there : slice_index xs j ≡ q = get_or_default xs j 0 q less ∙ f in
        let ordered : (n m : ℕ) → n < m → m < length xs → stand (slice_index xs n) (slice_index xs m) ≡ Less = λ n m lt within. Less-from_sorted stand xs n m 0 (rising xs up) lt within in
        elim (leb_tells (i + 1) j) [
          | inl w ↦ absurd (apart (key p) (key q) k (rw (sym here, sym there) (ordered i j (omega (arith, w.1)) less)) a b)
          | inr w ↦ elim (leb_tells (j + 1) i) [
            | inl v ↦ absurd (apart (key q) (key p) k (rw (sym here, sym there) (ordered j i (omega (arith, v.1)) few)) b a)
            | inr v ↦ let same : i ≡ j = omega arith in sym here ∙ ap (λ n. slice_index xs n) same ∙ there
          ]
        ]

  module _ (total : IsTotalOrder order) where
    -- ---- A list into which a place was inserted.
    flipped : (a : Option K) (k : K) → IsSome a → standing order a (Some k) ≡ Greater → standing order (Some k) a ≡ Less
    flipped (Some a) k some h = total.antisymm k a ∙ ap ordering_reverse h
    flipped None k some h = absurd (let w : false ≡ true = some in cc)

    pub ascends_with : (xs ys : List ℕ) (p : ℕ) (k : K) → key p ≡ Some k → AllStand (λ q. standing order (key q) (Some k)) Less xs → AllStand (λ q. standing order (key q) (Some k)) Greater ys → Ascends key order (xs ++ ys) → Ascends key order (xs ++ p ∷ ys)
    ascends_with xs ys p k e a b up =
        let live = live_all (xs ++ ys) up in
        ascends_from (xs ++ p ∷ ys)
        (all_with (λ q. IsSome (key q)) xs ys p (ap is_some e) live)
        (sorted_with stand xs ys p
        (subst (λ o. AllByRecursion (λ x. standing order (key x) o ≡ Less) xs) (sym e) a)
        (all_both (λ q. IsSome (key q)) (λ q. standing order (key q) (Some k) ≡ Greater) (λ y. stand p y ≡ Less) (λ y l h. ap (λ o. standing order o (key y)) e ∙ flipped (key y) k l h) ys (all_behind (λ q. IsSome (key q)) xs ys live) b)
        (rising (xs ++ ys) up))

    -- The key of a place is equal to itself.
    pub own_key : (p : ℕ) (k : K) → key p ≡ Some k → standing order (key p) (Some k) ≡ Equal
    own_key p k e = ap (λ o. standing order o (Some k)) e ∙ tied_itself total k

-- A list that is split at a key is also split just after it.
pub split_after : (go : ℕ → Ordering) (xs : List ℕ) → IsSplit go xs → IsSplit (λ q. after_key (go q)) xs
split_after go [] h = tt
split_after go (x ∷ xs) h = (elim h.0 [ inl a ↦ inl (ap after_key a) | inr a ↦ inr (all_both (λ q. go q ≡ Greater) (λ q. go q ≡ Greater) (λ q. after_key (go q) ≡ Greater) (λ q e _. ap after_key e) xs a a) ], split_after go xs h.1)

-- How often a place occurs in a tree, and in the list of its places.
use Rattle.std.proofs.Common.{◌≡◌, ◌≢◌, ℕ, zero, suc, ◌+◌, ◌≤◌, ◌<◌, false, List, [], ◌∷◌, ◌++◌, length, refl, sym, subst, ap, arith, inl, inr}
use Rattle.std.proofs.Common.{get_or, eqb, eqb-true, eq-eqb}
use Rattle.std.specs.List.{AllByRecursion, AllPairs, Contains, IsDistinct}
use Rattle.std.proofs.lemmas.Map.Keys.{IsDistinct-cons, apart_from_distinct}
use Rattle.std.proofs.lemmas.Map.Steps.{length-le_from_distinct_below}
use Rattle.std.proofs.lemmas.Map.Views.{Contains-from_any}
use Rattle.std.proofs.lemmas.Bool.Decides.{eqb_tells, leb_tells}
use Rattle.bimap_base.specs.Keyed.{Adds, Drops}
use Rattle.bimap_tree.specs.Tree.{Tree, leaf, fork, reading, size, occurs, is_at, IsDistinctTree}
use Rattle.bimap_tree.proofs.Shown.{is_at-same, is_at-other, by_ordering, size-reading}

-- How often a place occurs in the list.
abbrev pub tally : ℕ → List ℕ → ℕ
tally q [] = 0
tally q (x ∷ xs) = is_at q x + tally q xs

pub tally-append : (q : ℕ) (xs ys : List ℕ) → tally q (xs ++ ys) ≡ tally q xs + tally q ys
tally-append q [] ys = omega arith
tally-append q (x ∷ xs) ys = omega (arith, tally-append q xs ys)

pub tally-reading : (q : ℕ) (t : Tree) → tally q (reading t) ≡ occurs q t
tally-reading q leaf = refl
tally-reading q (fork l p r) = omega (arith, tally-append q (reading l) (p ∷ reading r), tally-reading q l, tally-reading q r)

tally_at : (xs : List ℕ) (k d : ℕ) → k < length xs → 1 ≤ tally (get_or xs k d) xs
tally_at [] k d h = absurd (omega arith)
tally_at (x ∷ xs) zero d h = omega (arith, is_at-same x)
tally_at (x ∷ xs) (suc k) d h = omega (arith, tally_at xs k d (omega arith))

tally_out : (x : ℕ) (xs : List ℕ) → tally x xs ≡ 0 → AllByRecursion (λ y. eqb x y ≡ false) xs
tally_out x [] none = tt
tally_out x (y ∷ ys) none = (
  elim (eqb_tells x y) [ inl w ↦ absurd (omega (arith, none, ap (λ z. is_at z y) w.1, is_at-same y)) | inr w ↦ w.0 ],
  tally_out x ys (omega (arith, none)),
)

tally_distinct : (xs : List ℕ) → ((q : ℕ) → tally q xs ≤ 1) → IsDistinct eqb xs
unfolding IsDistinct
tally_distinct [] h = tt
tally_distinct (x ∷ xs) h =
    IsDistinct-cons eqb x xs (tally_out x xs (omega (arith, h x, is_at-same x))) (tally_distinct xs (λ q. omega (arith, h q)))

distinct_places : (t : Tree) → IsDistinctTree t → IsDistinct eqb (reading t)
distinct_places t d = tally_distinct (reading t) (λ q. omega (arith, tally-reading q t, d q))

pub distinct_reading : (t : Tree) → IsDistinctTree t → AllPairs (λ x y. x ≢ y) (reading t)
distinct_reading t d i j z lt few e =
    let apart = apart_from_distinct eqb (reading t) i j z (distinct_places t d) lt few in
    let same = eq-eqb (get_or (reading t) i z) (get_or (reading t) j z) e in
    cc

tally_contains : (xs : List ℕ) (q : ℕ) → 1 ≤ tally q xs → Contains xs q
tally_contains [] q h = absurd (omega arith)
tally_contains (x ∷ xs) q h =
    elim (eqb_tells q x) [
      | inl w ↦ (0, omega arith, sym w.1)
      | inr w ↦
          let c = tally_contains xs q (omega (arith, is_at-other q x w.1)) in
          (suc c.0, omega arith, c.2)
    ]

-- A place that is not in the list does not occur in the tree.
pub absent_reading : (t : Tree) (place : ℕ) → (Contains (reading t) place → ⊥) → occurs place t ≡ 0
absent_reading t place n =
    elim (leb_tells 1 (occurs place t)) [
      | inl w ↦ absurd (n (tally_contains (reading t) place (omega (arith, tally-reading place t, w.1))))
      | inr w ↦ omega arith
    ]

-- A place is in the list exactly if it occurs in the tree.
pub contains_occurs : (t : Tree) (q : ℕ) → Contains (reading t) q → 0 < occurs q t
contains_occurs t q (k, few, e) =
    let here : 1 ≤ tally (get_or (reading t) k q) (reading t) = tally_at (reading t) k q few in
    let there : 1 ≤ tally q (reading t) = subst (λ x. 1 ≤ tally x (reading t)) e here in
    omega (arith, tally-reading q t)

pub occurs_contains : (t : Tree) (q : ℕ) → 0 < occurs q t → Contains (reading t) q
occurs_contains t q h = tally_contains (reading t) q (omega (arith, tally-reading q t))

-- If a tree has one place more, its list has this place and the old ones.
pub adds : (t u : Tree) (place : ℕ) → ((q : ℕ) → occurs q u ≡ occurs q t + is_at q place) → Adds (reading t) place (reading u)
adds t u place more p = (
  (λ c. elim (eqb_tells p place) [
    | inl w ↦ inl w.1
    | inr w ↦ inr (occurs_contains t p (omega (arith, contains_occurs u p c, more p, is_at-other p place w.1)))
  ]),
  (λ either. elim either [
    | inl w ↦ occurs_contains u p (omega (arith, more p, ap (λ x. is_at x place) w, is_at-same place))
    | inr w ↦ occurs_contains u p (omega (arith, more p, contains_occurs t p w))
  ]),
)

-- If a tree has one place less, its list has the other places.
pub drops : (t u : Tree) (place : ℕ) → IsDistinctTree t → ((q : ℕ) → occurs q t ≡ occurs q u + is_at q place) → Drops (reading t) place (reading u)
drops t u place once less p = (
  (λ c. (
    occurs_contains t p (omega (arith, less p, contains_occurs u p c)),
    (λ e. absurd (omega (arith, contains_occurs u p c, less p, once p, ap (λ x. is_at x place) e, is_at-same place))),
  )),
  (λ both. occurs_contains u p (omega (arith, less p, contains_occurs t p both.0, is_at-other p place both.1))),
)

-- A statement that is true of each place of a list.
pub all_front : (P : ℕ → Type 0) (xs ys : List ℕ) → AllByRecursion P (xs ++ ys) → AllByRecursion P xs
all_front P [] ys h = tt
all_front P (x ∷ xs) ys h = (h.0, all_front P xs ys h.1)

pub all_behind : (P : ℕ → Type 0) (xs ys : List ℕ) → AllByRecursion P (xs ++ ys) → AllByRecursion P ys
all_behind P [] ys h = h
all_behind P (x ∷ xs) ys h = all_behind P xs ys h.1

pub all_append : (P : ℕ → Type 0) (xs ys : List ℕ) → AllByRecursion P xs → AllByRecursion P ys → AllByRecursion P (xs ++ ys)
all_append P [] ys a b = b
all_append P (x ∷ xs) ys a b = (a.0, all_append P xs ys a.1 b)

pub all_both : (P Q R : ℕ → Type 0) → ((q : ℕ) → P q → Q q → R q) → (xs : List ℕ) → AllByRecursion P xs → AllByRecursion Q xs → AllByRecursion R xs
all_both P Q R f [] a b = tt
all_both P Q R f (x ∷ xs) a b = (f x a.0 b.0, all_both P Q R f xs a.1 b.1)

-- It is true of each place of a tree whose places are those of the list.
pub occurs_all : (P : ℕ → Type 0) (t : Tree) → AllByRecursion P (reading t) → (q : ℕ) → 0 < occurs q t → P q
occurs_all P leaf h q n = absurd (omega arith)
occurs_all P (fork l p r) h q n =
    by_ordering q l p r n
    (occurs_all P l (all_front P (reading l) (p ∷ reading r) h) q)
    (occurs_all P r (all_behind P (reading l) (p ∷ reading r) h).1 q)
    (λ e. rw e (all_behind P (reading l) (p ∷ reading r) h).0)

-- A tree of distinct places below `n` has at most `n` places.
pub size_within : (t : Tree) (n : ℕ) → IsDistinctTree t → ((q : ℕ) → 0 < occurs q t → q < n) → size t ≤ n
size_within t n d low =
    rw (← size-reading t) (length-le_from_distinct_below (reading t) n (distinct_places t d)
    (λ q any. low q (contains_occurs t q (Contains-from_any (λ x y. eqb-true x y) q (reading t) any))))

-- Two lists of pairs in ascending order are equal place by place if they are the same set.
use Rattle.std.proofs.Common.{◌≡◌, ◌⊎◌, ◌&&◌, ◌≤◌, Bool, true, List, [], ◌∷◌, ◌++◌, length, refl, sym, ap, subst, ◌∙◌, inl, inr, arith}
use Rattle.std.specs.List.{Contains, AllPairs}
use Rattle.std.specs.Bool.{Decides}
use Rattle.std.specs.Cmp.{IsTotalOrder, IsPartialOrder, first_so, second_so, alike_right, tied_back, both_ways, both_tied, on_total, then_total, po}
use Rattle.std.specs.Cmp.Lexicographic.{pointwise, as_long, lists_ties, lists_total}
use Rattle.std.specs.Ordering.{is_eq, is_lt, eq_by_cmp}
use Rattle.std.specs.declared.cmp.Ordering.{Ordering}
use Rattle.std.specs.declared.cmp.Ordering.TheVariants.{Less, Equal, Greater}
use Rattle.std.specs.declared.option.Option.TheVariants.{Some}
use Rattle.std.specs.Hash.{HashWrites, Alike, on_Alike, and-Alike, items_Alike, slice}
use Rattle.std.proofs.lemmas.Bool.{false≢true}
use Rattle.bimap_any.specs.Same.{pair_eq, IsSame, same, pair_cmp, lexicographic}
use Rattle.bimap_base.proofs.Members.{head_in, more_in, cases_in, none_in, AllPairs-head, AllPairs-tail}
use Rattle.bimap_any.proofs.SameSets.{same_decides}

-- `k` is below all lefts of the list.
abbrev IsBelowAll : {L R : Type 0} → (L → L → Ordering) → L → List (L × R) → Type 0
IsBelowAll cmp k [] = Unit {0}
IsBelowAll cmp k (q ∷ qs) = (cmp k q.0 ≡ Less) × IsBelowAll cmp k qs

-- The lefts are in ascending order.
abbrev IsAscending : {L R : Type 0} → (L → L → Ordering) → List (L × R) → Type 0
IsAscending cmp [] = Unit {0}
IsAscending cmp (p ∷ ps) = IsBelowAll cmp p.0 ps × IsAscending cmp ps

module _ {L R : Type 0} (cmp : L → L → Ordering) (o : IsTotalOrder cmp) (el : L → L → Bool) (er : R → R → Bool) (ties : (x y : L) → el x y ≡ is_eq (cmp x y)) where
  Equal_from : (r : Ordering) → is_eq r ≡ true → r ≡ Equal
  Equal_from Less e = absurd (false≢true e)
  Equal_from Equal e = refl
  Equal_from Greater e = absurd (false≢true e)

  level : (p q : L × R) → pair_eq el er p q ≡ true → cmp p.0 q.0 ≡ Equal
  level p q e = Equal_from (cmp p.0 q.0) (sym (ties p.0 q.0) ∙ first_so (el p.0 q.0) (er p.1 q.1) e)

  apart : (a b : L) {A : Type 0} → cmp a b ≡ Less → cmp a b ≡ Equal → A
  apart a b e f = absurd (false≢true (sym (ap is_lt f) ∙ ap is_lt e))

  below : (k : L) (qs : List (L × R)) (q : L × R) → IsBelowAll cmp k qs → Contains qs q → cmp k q.0 ≡ Less
  below k [] q h c = none_in q c
  below k (r ∷ rs) q h c = by (cases_in r rs q c) (λ d. below k rs q h.1 d)
    where
      by : (r ≡ q) ⊎ Contains rs q → (Contains rs q → cmp k q.0 ≡ Less) → cmp k q.0 ≡ Less
      by (inl e) f = subst (λ s. cmp k s.0 ≡ Less) e h.0
      by (inr d) f = f d

  abbrev Sub : List (L × R) → List (L × R) → Type 0
  Sub xs ys = (p : L × R) → Contains xs p → (q : L × R) × Contains ys q × (pair_eq el er p q ≡ true)

  -- The first pairs match, so the rest of one list matches the rest of the other.
  sub_tails : (x y : L × R) (xs ys : List (L × R)) → IsBelowAll cmp x.0 xs → cmp x.0 y.0 ≡ Equal → Sub (x ∷ xs) (y ∷ ys) → Sub xs ys
  sub_tails x y xs ys b e s p c = by (cases_in y ys m.0 m.1)
    where
      m : (q : L × R) × Contains (y ∷ ys) q × (pair_eq el er p q ≡ true)
      m = s p (more_in x xs p c)

      by : (y ≡ m.0) ⊎ Contains ys m.0 → (q : L × R) × Contains ys q × (pair_eq el er p q ≡ true)
      by (inl f) =
          let py : cmp p.0 y.0 ≡ Equal = ap (λ q. cmp p.0 q.0) f ∙ level p m.0 m.2 in
          let yp : cmp y.0 p.0 ≡ Less = sym (o.congr x.0 y.0 p.0 e) ∙ below x.0 xs p b c in
          apart y.0 p.0 yp (tied_back o p.0 y.0 py)
      by (inr d) = (m.0, d, m.2)

  -- The first pair matches a later pair of the other list, so all pairs match later ones.
  sub_later : (x y : L × R) (xs ys : List (L × R)) (q : L × R) → IsBelowAll cmp x.0 xs → IsBelowAll cmp y.0 ys → Contains ys q → pair_eq el er x q ≡ true → Sub (x ∷ xs) (y ∷ ys) → Sub (x ∷ xs) ys
  sub_later x y xs ys q bx by' cq eq s p c = by (cases_in x xs p c)
    where
      yx : cmp y.0 x.0 ≡ Less
      yx = alike_right o x.0 q.0 y.0 (level x q eq) ∙ below y.0 ys q by' cq

      m : (r : L × R) × Contains (y ∷ ys) r × (pair_eq el er p r ≡ true)
      m = s p c

      at : cmp y.0 p.0 ≡ Less → (y ≡ m.0) ⊎ Contains ys m.0 → (r : L × R) × Contains ys r × (pair_eq el er p r ≡ true)
      at l (inl f) = apart y.0 p.0 l (tied_back o p.0 y.0 (ap (λ r. cmp p.0 r.0) f ∙ level p m.0 m.2))
      at l (inr d) = (m.0, d, m.2)

      by : (x ≡ p) ⊎ Contains xs p → (r : L × R) × Contains ys r × (pair_eq el er p r ≡ true)
      by (inl f) = at (ap (λ r. cmp y.0 r.0) (sym f) ∙ yx) (cases_in y ys m.0 m.1)
      by (inr d) = at (o.trans y.0 x.0 p.0 yx (below x.0 xs p bx d)) (cases_in y ys m.0 m.1)

  fewer : (xs ys : List (L × R)) → IsAscending cmp xs → IsAscending cmp ys → Sub xs ys → length xs ≤ length ys
  fewer [] ys ax ay s = omega arith
  fewer (x ∷ xs) [] ax ay s = none_in (s x (head_in x xs)).0 (s x (head_in x xs)).1
  fewer (x ∷ xs) (y ∷ ys) ax ay s = by (cases_in y ys m.0 m.1) (λ t. fewer xs ys ax.1 ay.1 t) (λ t. fewer (x ∷ xs) ys ax ay.1 t)
    where
      m : (q : L × R) × Contains (y ∷ ys) q × (pair_eq el er x q ≡ true)
      m = s x (head_in x xs)

      by : (y ≡ m.0) ⊎ Contains ys m.0 → (Sub xs ys → length xs ≤ length ys) → (Sub (x ∷ xs) ys → length (x ∷ xs) ≤ length ys) → length (x ∷ xs) ≤ length (y ∷ ys)
      by (inl f) g h = omega (arith, g (sub_tails x y xs ys ax.0 (ap (λ r. cmp x.0 r.0) f ∙ level x m.0 m.2) s))
      by (inr d) g h = omega (arith, h (sub_later x y xs ys m.0 ax.0 ay.0 d m.2 s))

  from_same : (xs ys : List (L × R)) → IsAscending cmp xs → IsAscending cmp ys → length xs ≡ length ys → Sub xs ys → pointwise (pair_eq el er) xs ys ≡ true
  from_same [] [] ax ay n s = refl
  from_same [] (y ∷ ys) ax ay n s = absurd (omega (arith, n))
  from_same (x ∷ xs) [] ax ay n s = absurd (omega (arith, n))
  from_same (x ∷ xs) (y ∷ ys) ax ay n s = by (cases_in y ys m.0 m.1) (λ t. from_same xs ys ax.1 ay.1 (omega (arith, n)) t)
    where
      m : (q : L × R) × Contains (y ∷ ys) q × (pair_eq el er x q ≡ true)
      m = s x (head_in x xs)

      by : (y ≡ m.0) ⊎ Contains ys m.0 → (Sub xs ys → pointwise (pair_eq el er) xs ys ≡ true) → pointwise (pair_eq el er) (x ∷ xs) (y ∷ ys) ≡ true
      by (inl f) g =
          let e : pair_eq el er x y ≡ true = ap (pair_eq el er x) f ∙ m.2 in
          λ i. e i && g (sub_tails x y xs ys ax.0 (level x y e) s) i
      by (inr d) g = absurd (omega (arith, n, fewer (x ∷ xs) ys ax ay.1 (sub_later x y xs ys m.0 ax.0 ay.0 d m.2 s)))

  to_sub : (xs ys : List (L × R)) → pointwise (pair_eq el er) xs ys ≡ true → Sub xs ys
  to_sub [] ys e p c = none_in p c
  to_sub (x ∷ xs) [] e p c = absurd (false≢true e)
  to_sub (x ∷ xs) (y ∷ ys) e p c = by (cases_in x xs p c) (λ d. to_sub xs ys (second_so (pair_eq el er x y) _ e) p d)
    where
      by : (x ≡ p) ⊎ Contains xs p → (Contains xs p → (q : L × R) × Contains ys q × (pair_eq el er p q ≡ true)) → (q : L × R) × Contains (y ∷ ys) q × (pair_eq el er p q ≡ true)
      by (inl f) g = (y, head_in y ys, ap (λ r. pair_eq el er r y) (sym f) ∙ first_so (pair_eq el er x y) _ e)
      by (inr d) g = let q = g d in (q.0, more_in y ys q.0 q.1, q.2)

  same_pointwise : (xs ys : List (L × R)) → IsAscending cmp xs → IsAscending cmp ys → Decides (pointwise (pair_eq el er) xs ys) (IsSame el er xs ys)
  same_pointwise xs ys ax ay = (λ e. (as_long (pair_eq el er) xs ys e, to_sub xs ys e), λ s. from_same xs ys ax ay s.0 s.1)

  below_all : (k : L) (xs : List (L × R)) → ((p : L × R) → Contains xs p → cmp k p.0 ≡ Less) → IsBelowAll cmp k xs
  below_all k [] each = tt
  below_all k (x ∷ xs) each = (each x (head_in x xs), below_all k xs (λ p c. each p (more_in x xs p c)))

  ascending : (xs : List (L × R)) → AllPairs (λ p q. cmp p.0 q.0 ≡ Less) xs → IsAscending cmp xs
  ascending [] up = tt
  ascending (x ∷ xs) up = (below_all x.0 xs (AllPairs-head (λ p q. cmp p.0 q.0 ≡ Less) x xs up), ascending xs (AllPairs-tail (λ p q. cmp p.0 q.0 ≡ Less) x xs up))

  pub same_is_pointwise : (xs ys : List (L × R)) → AllPairs (λ p q. cmp p.0 q.0 ≡ Less) xs → AllPairs (λ p q. cmp p.0 q.0 ≡ Less) ys → same el er xs ys ≡ pointwise (pair_eq el er) xs ys
  same_is_pointwise xs ys ax ay =
      let s = same_decides el er xs ys in
      let t = same_pointwise xs ys (ascending xs ax) (ascending ys ay) in
      both_ways (same el er xs ys) (pointwise (pair_eq el er) xs ys) (λ e. t.1 (s.0 e)) (λ e. s.1 (t.0 e))

module _ {L R : Type 0} (eql : L → L → Bool) (eqr : R → R → Bool) {cmpl : L → L → Ordering} {cmpr : R → R → Ordering} (total_left : IsTotalOrder cmpl) (total_right : IsTotalOrder cmpr) (tiesl : (x y : L) → eql x y ≡ eq_by_cmp cmpl x y) (tiesr : (x y : R) → eqr x y ≡ eq_by_cmp cmpr x y) where
  -- Two lists are the same set exactly if they compare as equal.
  pub same_ties : (xs ys : List (L × R)) → AllPairs (λ p q. cmpl p.0 q.0 ≡ Less) xs → AllPairs (λ p q. cmpl p.0 q.0 ≡ Less) ys → same eql eqr xs ys ≡ eq_by_cmp (lexicographic cmpl cmpr) xs ys
  same_ties xs ys ax ay = same_is_pointwise cmpl total_left eql eqr tiesl xs ys ax ay ∙ lists_ties (pair_cmp cmpl cmpr) (λ p q. both_tied _ _ (cmpl p.0 q.0) (cmpr p.1 q.1) (tiesl p.0 q.0) (tiesr p.1 q.1)) xs ys

  lexicographic_total : IsTotalOrder (lexicographic cmpl cmpr)
  lexicographic_total = lists_total (then_total (on_total (λ p. p.0) total_left) (on_total (λ p. p.1) total_right))

  module _ {B : Type 0} (held : B → List (L × R)) (up : (b : B) → AllPairs (λ p q. cmpl p.0 q.0 ≡ Less) (held b)) where
    pub held_total : IsTotalOrder (λ a b. lexicographic cmpl cmpr (held a) (held b))
    held_total = on_total held lexicographic_total

    pub held_ties : (a b : B) → same eql eqr (held a) (held b) ≡ eq_by_cmp (λ a b. lexicographic cmpl cmpr (held a) (held b)) a b
    held_ties a b = same_ties (held a) (held b) (up a) (up b)

    pub held_po : IsPartialOrder (λ a b. same eql eqr (held a) (held b)) (λ a b. Some (lexicographic cmpl cmpr (held a) (held b)))
    held_po = po held_total held_ties

    -- The same sets have the same hash.
    pub held_alike : {F : L → HashWrites} {G : R → HashWrites} → Alike eql F → Alike eqr G → Alike (λ a b. same eql eqr (held a) (held b)) (λ a. slice (λ p. F p.0 ++ G p.1) (held a))
    held_alike {F} {G} left right =
        let pairs = items_Alike (and-Alike (on_Alike (λ p. p.0) left) (on_Alike (λ p. p.1) right)) in
        record { fed = λ a b e. pairs.fed (held a) (held b) (sym (same_is_pointwise cmpl total_left eql eqr tiesl (held a) (held b) (up a) (up b)) ∙ e) }

-- Lists of places in the order of their keys, compared with one key.
use Rattle.std.proofs.Common.{◌≡◌, ◌≢◌, ◌⊎◌, ℕ, ◌+◌, ◌≤◌, true, false, cond, List, [], ◌∷◌, ◌++◌, length, zero-add, refl, sym, ◌∙◌, ap, arith, inl, inr, Some, None}
use Rattle.std.specs.Ordering.{is_lt, is_eq}
use Rattle.std.specs.declared.cmp.Ordering.{Ordering}
use Rattle.std.specs.declared.cmp.Ordering.TheVariants.{Less, Equal, Greater}
use Rattle.bimap_tree.specs.Order.{AllStand, IsSplit, first_equal, count_below}
use Rattle.bimap_tree.proofs.Distinct.{all_front, all_behind}

module _ (go : ℕ → Ordering) where
  pub split_front : (xs ys : List ℕ) → IsSplit go (xs ++ ys) → IsSplit go xs
  split_front [] ys h = tt
  split_front (x ∷ xs) ys h = (elim h.0 [ inl a ↦ inl a | inr a ↦ inr (all_front (λ q. go q ≡ Greater) xs ys a) ], split_front xs ys h.1)

  pub split_back : (xs ys : List ℕ) → IsSplit go (xs ++ ys) → IsSplit go ys
  split_back [] ys h = h
  split_back (x ∷ xs) ys h = split_back xs ys h.1

  -- The places before a place that is not above the key are below the key.
  pub split_below : (xs ys : List ℕ) (p : ℕ) → IsSplit go (xs ++ p ∷ ys) → go p ≢ Greater → AllStand go Less xs
  split_below [] ys p h n = tt
  split_below (x ∷ xs) ys p h n = (elim h.0 [ inl a ↦ a | inr a ↦ absurd (n (all_behind (λ q. go q ≡ Greater) xs (p ∷ ys) a).0) ], split_below xs ys p h.1 n)

  -- The places after a place that is not below the key are above the key.
  pub split_above : (xs ys : List ℕ) (p : ℕ) → IsSplit go (xs ++ p ∷ ys) → go p ≢ Less → AllStand go Greater ys
  split_above xs ys p h n = elim (split_back xs (p ∷ ys) h).0 [ inl a ↦ absurd (n a) | inr a ↦ a ]

  pub first_after : (xs ys : List ℕ) → AllStand go Less xs → first_equal go (xs ++ ys) ≡ first_equal go ys
  first_after [] ys h = refl
  first_after (x ∷ xs) ys h = rw h.0 (first_after xs ys h.1)

  pub first_above : (ys : List ℕ) → AllStand go Greater ys → first_equal go ys ≡ None
  first_above [] h = refl
  first_above (x ∷ xs) h = rw h.0 (first_above xs h.1)

  pub first_before : (xs ys : List ℕ) → AllStand go Greater ys → first_equal go (xs ++ ys) ≡ first_equal go xs
  first_before [] ys h = first_above ys h
  first_before (x ∷ xs) ys h = ap (λ z. cond (is_eq (go x)) (Some x) z) (first_before xs ys h)

pub not_less : (o : Ordering) → o ≢ Less → is_lt o ≡ false
not_less Less n = absurd (n refl)
not_less Equal n = refl
not_less Greater n = refl

pub less_or_not : (o : Ordering) → (o ≡ Less) ⊎ (o ≢ Less)
less_or_not Less = inl refl
less_or_not Equal = inr (λ e. cc)
less_or_not Greater = inr (λ e. cc)

pub less_not_greater : (o : Ordering) → o ≡ Less → o ≢ Greater
less_not_greater o e f = let x : Less ≡ Greater = sym e ∙ f in cc

module _ (go : ℕ → Ordering) where
  pub count-append : (xs ys : List ℕ) → count_below go (xs ++ ys) ≡ count_below go xs + count_below go ys
  count-append [] ys = sym (zero-add (count_below go ys))
  count-append (x ∷ xs) ys = omega (arith, count-append xs ys)

  pub count_all : (xs : List ℕ) → AllStand go Less xs → count_below go xs ≡ length xs
  count_all [] h = refl
  count_all (x ∷ xs) h = rw h.0 (omega (arith, count_all xs h.1))

  pub count_none : (xs : List ℕ) → AllStand go Greater xs → count_below go xs ≡ 0
  count_none [] h = refl
  count_none (x ∷ xs) h = rw h.0 (omega (arith, count_none xs h.1))

  pub count_length : (xs : List ℕ) → count_below go xs ≤ length xs
  count_length [] = omega arith
  count_length (x ∷ xs) = elim (is_lt (go x)) as (λ b. cond b 1 0 + count_below go xs ≤ length (x ∷ xs)) [ true ↦ omega (arith, count_length xs) | false ↦ omega (arith, count_length xs) ]

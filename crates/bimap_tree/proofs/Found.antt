-- What a search of a list finds, by how its places compare with the key.
use Rattle.std.proofs.Common.{◌≡◌, ◌≢◌, ◌⊎◌, true, false, ℕ, zero, suc, ◌+◌, ◌≤◌, ◌<◌, cond, List, [], ◌∷◌, Option, Some, None, refl, sym, subst, ◌∙◌, ap, arith, inl, inr}
use Rattle.std.specs.Prelude.{IfSome, IfNone, slice_get}
use Rattle.std.specs.List.{Contains}
use Rattle.std.specs.Ordering.{is_eq, is_lt}
use Rattle.std.specs.declared.cmp.Ordering.{Ordering}
use Rattle.std.specs.declared.cmp.Ordering.TheVariants.{Less, Equal, Greater}
use Rattle.bimap_tree.specs.Order.{first_equal, count_below, AllStand, IsSplit}
use Rattle.bimap_tree.proofs.Split.{count_none, less_or_not, not_less}
use Rattle.bimap_base.proofs.Members.{head_in, more_in, cases_in, none_in as none_within}

pub equal_or_not : (o : Ordering) → (o ≡ Equal) ⊎ (is_eq o ≡ false)
equal_or_not Less = inr refl
equal_or_not Equal = inl refl
equal_or_not Greater = inr refl

module _ (go : ℕ → Ordering) where
  pub first_is : (xs : List ℕ) (p : ℕ) → first_equal go xs ≡ Some p → Contains xs p × (go p ≡ Equal)
  first_is [] p e = absurd (cc)
  first_is (x ∷ xs) p e =
      elim (equal_or_not (go x)) [
        | inl w ↦ let s : Some x ≡ Some p = rw w at e in let same : x ≡ p = cc in (subst (λ y. Contains (x ∷ xs) y) same (head_in x xs), ap go (sym same) ∙ w)
        | inr n ↦ let (c, s) = first_is xs p (rw n at e) in (more_in x xs p c, s)
      ]

  pub first_none : (xs : List ℕ) → first_equal go xs ≡ None → (p : ℕ) → Contains xs p → go p ≡ Equal → ⊥
  first_none [] e p c s = none_within p c
  first_none (x ∷ xs) e p c s =
      elim (equal_or_not (go x)) [
        | inl w ↦ let s : Some x ≡ None = rw w at e in cc
        | inr n ↦ elim (cases_in x xs p c) [ inl same ↦ let y : is_eq (go x) ≡ true = ap (λ z. is_eq (go z)) same ∙ ap is_eq s in cc | inr k ↦ first_none xs (rw n at e) p k s ]
      ]

-- A place that the search found has an equal key. If the search found none, no place has one.
pub found_in : (go : ℕ → Ordering) (xs : List ℕ) (found : Option ℕ) → found ≡ first_equal go xs → IfSome found (λ p. Contains xs p × (go p ≡ Equal))
found_in go xs None e = tt
found_in go xs (Some p) e = first_is go xs p (sym e)

pub none_in : (go : ℕ → Ordering) (xs : List ℕ) (found : Option ℕ) → found ≡ first_equal go xs → IfNone found ((p : ℕ) → Contains xs p → go p ≡ Equal → ⊥)
none_in go xs (Some p) e = tt
none_in go xs None e = first_none go xs (sym e)

pub none_told : (go : ℕ → Ordering) (xs : List ℕ) (found told_on : Option ℕ) → found ≡ None → found ≡ first_equal go xs → IfNone told_on ((p : ℕ) → Contains xs p → go p ≡ Equal → ⊥)
none_told go xs found (Some p) none e = tt
none_told go xs found None none e = first_none go xs (sym e ∙ none)

-- If no listed key is equal, the search finds no place.
pub none_of : (go : ℕ → Ordering) (xs : List ℕ) (found : Option ℕ) → found ≡ first_equal go xs → ((p : ℕ) → Contains xs p → go p ≡ Equal → ⊥) → found ≡ None
none_of go xs None e n = refl
none_of go xs (Some p) e n = let (c, s) = first_is go xs p (sym e) in absurd (n p c s)

-- If exactly one listed key is equal, the search finds its place.
pub one_of : (go : ℕ → Ordering) (xs : List ℕ) (found : Option ℕ) (place : ℕ) → found ≡ first_equal go xs → Contains xs place → go place ≡ Equal → ((p : ℕ) → Contains xs p → go p ≡ Equal → p ≡ place) → found ≡ Some place
one_of go xs None place e listed same only = absurd (first_none go xs (sym e) place listed same)
one_of go xs (Some p) place e listed same only = let (c, s) = first_is go xs p (sym e) in ap Some (only p c s)

-- ---- The places below a key come first.
module _ (go : ℕ → Ordering) where
  above_at : (xs : List ℕ) → AllStand go Greater xs → (i p : ℕ) → slice_get xs i ≡ Some p → go p ≡ Greater
  above_at [] h i p e = absurd (cc)
  above_at (x ∷ xs) h zero p e = let same : x ≡ p = cc in ap go (sym same) ∙ h.0
  above_at (x ∷ xs) h (suc i) p e = above_at xs h.1 i p e

  count_step : (x : ℕ) (xs : List ℕ) → count_below go (x ∷ xs) ≤ count_below go xs + 1
  count_step x xs = elim (is_lt (go x)) as (λ b. cond b 1 0 + count_below go xs ≤ count_below go xs + 1) [ true ↦ omega arith | false ↦ omega arith ]

  pub below_first : (xs : List ℕ) → IsSplit go xs → (i p : ℕ) → i < count_below go xs → slice_get xs i ≡ Some p → go p ≡ Less
  below_first [] split i p few e = absurd (omega arith)
  below_first (x ∷ xs) split zero p few e =
      let same : x ≡ p = cc in
      elim (less_or_not (go x)) [
        | inl w ↦ ap go (sym same) ∙ w
        | inr n ↦ elim split.0 [ inl w ↦ absurd (n w) | inr a ↦ absurd (let f = rw (not_less (go x) n) at few in omega (arith, count_none go xs a)) ]
      ]
  below_first (x ∷ xs) split (suc i) p few e = below_first xs split.1 i p (omega (arith, few, count_step x xs)) e

  pub not_below : (xs : List ℕ) → IsSplit go xs → (i p : ℕ) → count_below go xs ≤ i → slice_get xs i ≡ Some p → go p ≢ Less
  not_below [] split i p few e l = absurd (cc)
  not_below (x ∷ xs) split zero p few e l = let same : x ≡ p = cc in let w : go x ≡ Less = ap go same ∙ l in absurd (let f = rw w at few in omega arith)
  not_below (x ∷ xs) split (suc i) p few e l =
      elim split.0 [
        | inl w ↦ not_below xs split.1 i p (let f = rw w at few in omega arith) e l
        | inr a ↦ let y : Greater ≡ Less = sym (above_at xs a i p e) ∙ l in cc
      ]

-- What `last_below` finds, and when two lists of cells give the same result.
use Rattle.std.proofs.Common.{◌≡◌, ℕ, zero, suc, ◌+◌, ◌<◌, ◌≤◌, true, false, None, Some, refl, sym, ◌∙◌, ap, subst, arith, inl, inr}
use Rattle.std.proofs.lemmas.Bool.{cases_eq}
use Rattle.bimap_chain.specs.Chains.{Numbers, number_at, is_of, last_below, NoneWithin}

module _ (n b : ℕ) where
  -- The last cell is in the bucket.
  pub last_here : (c : Numbers) (m : ℕ) → is_of n b (number_at c m) ≡ true → last_below c n b (suc m) ≡ Some m
  unfolding last_below
  last_here c m e = rw e

  -- The last cell is not in the bucket.
  pub last_lower : (c : Numbers) (m : ℕ) → is_of n b (number_at c m) ≡ false → last_below c n b (suc m) ≡ last_below c n b m
  unfolding last_below
  last_lower c m e = rw e

  -- A statement follows if it follows for a cell in the bucket and for a cell outside it.
  by_cell : (c : Numbers) (m : ℕ) (P : Type 0) → (is_of n b (number_at c m) ≡ true → P) → (is_of n b (number_at c m) ≡ false → P) → P
  by_cell c m P t f =
      (elim (is_of n b (number_at c m)) as (λ v. is_of n b (number_at c m) ≡ v → P) [ true ↦ λ e. t e | false ↦ λ e. f e ]) refl

  -- Two lists of cells agree below the end.
  pub same_last : (c d : Numbers) (m : ℕ) → ((q : ℕ) → q < m → is_of n b (number_at c q) ≡ is_of n b (number_at d q)) → last_below c n b m ≡ last_below d n b m
  unfolding last_below
  same_last c d zero h = refl
  same_last c d (suc m) h = rw (h m (omega arith), same_last c d m (λ q l. h q (omega arith)))

  one_more : (c : Numbers) (f m : ℕ) → NoneWithin c n b f m → is_of n b (number_at c m) ≡ false → NoneWithin c n b f (suc m)
  one_more c f m h t q l r = grind (arith, h)

  -- `last_below` found a place.
  pub found : (c : Numbers) (m p : ℕ) → last_below c n b m ≡ Some p → (p < m) × (is_of n b (number_at c p) ≡ true) × NoneWithin c n b (p + 1) m
  unfolding last_below
  found c zero p e = cc
  found c (suc m) p e =
      by_cell c m ((p < suc m) × (is_of n b (number_at c p) ≡ true) × NoneWithin c n b (p + 1) (suc m))
      (λ t. let s : m ≡ p = let g = sym (last_here c m t) ∙ e in cc in (omega arith, (subst (λ q. is_of n b (number_at c q) ≡ true) s t), λ q l r. absurd (omega arith)))
      (λ f. let i = found c m p (sym (last_lower c m f) ∙ e) in (omega (arith, i.0), i.1, one_more c (p + 1) m i.2 f))

  -- `last_below` found no place.
  pub found_none : (c : Numbers) (m : ℕ) → last_below c n b m ≡ None → NoneWithin c n b 0 m
  unfolding last_below
  found_none c zero e = λ q l r. absurd (omega arith)
  found_none c (suc m) e =
      by_cell c m (NoneWithin c n b 0 (suc m))
      (λ t. let g = sym (last_here c m t) ∙ e in cc)
      (λ f. one_more c 0 m (found_none c m (sym (last_lower c m f) ∙ e)) f)

  -- Cells outside the bucket change nothing.
  pub skipped : (c : Numbers) (f m : ℕ) → f ≤ m → NoneWithin c n b f m → last_below c n b m ≡ last_below c n b f
  skipped c f zero l h = let e : zero ≡ f = omega arith in ap (last_below c n b) e
  skipped c f (suc m) l h =
      elim (cases_eq f (suc m)) as (λ _. last_below c n b (suc m) ≡ last_below c n b f) [
        | inl e ↦ ap (last_below c n b) (sym e)
        | inr k ↦ last_lower c m (h m (omega arith) (omega arith)) ∙ skipped c f m (omega arith) (λ q i j. h q i (omega arith))
      ]

  -- Two lists of cells agree from `k` on, and one of these places is in the bucket.
  pub same_above : (c d : Numbers) (k m p : ℕ) → ((q : ℕ) → k ≤ q → q < m → is_of n b (number_at c q) ≡ is_of n b (number_at d q)) → k ≤ p → p < m → is_of n b (number_at c p) ≡ true → last_below c n b m ≡ last_below d n b m
  same_above c d k zero p h l r t = absurd (omega arith)
  same_above c d k (suc m) p h l r t =
      by_cell c m (last_below c n b (suc m) ≡ last_below d n b (suc m))
      (λ u. last_here c m u ∙ sym (last_here d m (sym (h m (omega arith) (omega arith)) ∙ u)))
      (λ f. let r' : p < m = grind arith in
      last_lower c m f ∙ same_above c d k m p (λ q i j. h q i (omega arith)) l r' t ∙ sym (last_lower d m (sym (h m (omega arith) (omega arith)) ∙ f)))

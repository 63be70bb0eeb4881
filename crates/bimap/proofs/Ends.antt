-- What a caller can derive about the ends of an order: when nothing is contained, which pair is at an end, and that no
-- number is beyond it.
use Rattle.std.proofs.Common.{◌≡◌, ◌∙◌, ℕ, ◌+◌, ◌-◌, ◌<◌, ◌≤◌, ◌⊎◌, inl, inr, false, nat_eq, Option, Some, None, IfSome, IfNone, List, [], ◌∷◌, length, slice_get, get_or, refl, sym, ap, arith}
use Rattle.std.specs.Prelude.{Contains}
use Rattle.std.specs.Borrow.{Bor}
use Rattle.std.specs.Map.Iter.{deref_pair}
use Rattle.std.specs.Option.{option_map}
use Rattle.std.specs.Ordering.{nat_cmp}
use Rattle.std.specs.declared.cmp.Ordering.{Ordering}
use Rattle.std.specs.declared.cmp.Ordering.TheVariants.{Less}
use Rattle.std.proofs.lemmas.Bool.{ne_eqb, cases_order}
use Rattle.std.proofs.lemmas.Cmp.{ranked}
use Rattle.std.proofs.lemmas.List.{nil_from_length}
use Rattle.std.proofs.lemmas.Option.{slice_get_within, get_or_from_slice_get, slice_get-get_or}
use Rattle.bimap.specs.BTree.{IsByRight}

module _ {L R : Type 0} where
  none_at : (sorted : List (L × R)) (rank : ℕ) → rank ≤ length sorted - 1 → None ≡ slice_get sorted rank → length sorted ≡ 0
  none_at [] rank within at = refl
  none_at (p ∷ sorted) rank within at = absurd (let i : None ≡ Some (get_or (p ∷ sorted) rank p) = at ∙ slice_get-get_or (p ∷ sorted) rank p (omega arith) in cc)

  -- If there is no first or no last pair, nothing is contained.
  -- `sorted` is the contained pairs in the order of their lefts or of their rights.
  pub none_held : (held sorted : List (L × R)) (rank : ℕ) (end : Option (Bor L × Bor R)) → option_map deref_pair end ≡ slice_get sorted rank → rank ≤ length sorted - 1 → length sorted ≡ length held → IfNone end (held ≡ [])
  none_held held sorted rank (Some p) at within long = tt
  none_held held sorted rank None at within long = nil_from_length held (sym long ∙ none_at sorted rank within at)

-- The pair at a rank is contained.
pub rank_is_held : {L R : Type 0} (order : R → R → Ordering) (held sorted : List (L × R)) (l : L) (r : R) (rank : ℕ) → IsByRight order held sorted → Some (l, r) ≡ slice_get sorted rank → Contains held (l, r)
rank_is_held order held sorted l r rank sorts at = (sorts.same (l, r)).1 (rank, slice_get_within sorted rank (l, r) (sym at), get_or_from_slice_get sorted rank (l, r) (l, r) (sym at))

-- and so is that of an end by right, where there is one
pub end_is_held : {L R : Type 0} (order : R → R → Ordering) (held sorted : List (L × R)) (rank : ℕ) → IsByRight order held sorted → (end : Option (Bor L × Bor R)) → option_map deref_pair end ≡ slice_get sorted rank → IfSome end (λ p. Contains held (p.0.now, p.1.now))
end_is_held order held sorted rank sorts None at = tt
end_is_held order held sorted rank sorts (Some p) at = rank_is_held order held sorted p.0.now p.1.now rank sorts at

module _ {L : Type 0} (held sorted : List (L × ℕ)) (sorts : IsByRight nat_cmp held sorted) where
  module _ (l : L) (r rank : ℕ) (at : Some (l, r) ≡ slice_get sorted rank) where
    is : (d : L × ℕ) → get_or sorted rank d ≡ (l, r)
    is d = get_or_from_slice_get sorted rank (l, r) d (sym at)

    below : (i j : ℕ) (d : L × ℕ) → i < j → j < length sorted → (get_or sorted i d).1 < (get_or sorted j d).1
    below i j d before inside = ranked _ _ Less (sym (sorts.ascends i j d before inside))

    -- Each contained number is before this rank, at it or after it.
    by_rank : (q : L × ℕ) → Contains held q → (i : ℕ) × (i < length sorted) × (((i ≡ rank) × (q.1 ≡ r)) ⊎ (((i < rank) × (q.1 < r)) ⊎ ((rank < i) × (r < q.1))))
    by_rank q held =
        let m = (sorts.same q).0 held in
        let at_i = ap (λ (p : L × ℕ). p.1) m.2 in
        let at_rank = ap (λ (p : L × ℕ). p.1) (is q) in (
          m.0,
          m.1,
          elim (cases_order m.0 rank) [
            | inl e ↦ inl (e, sym at_i ∙ ap (λ k. (get_or sorted k q).1) e ∙ at_rank)
            | inr (inl b) ↦ inr (inl (b, (let w = below m.0 rank q b (slice_get_within sorted rank (l, r) (sym at)) in omega (arith, w, at_i, at_rank))))
            | inr (inr b) ↦ inr (inr (b, (let w = below rank m.0 q b m.1 in omega (arith, w, at_i, at_rank))))
          ],
        )

  -- No number is below the first one.
  pub first_is_least : (l : L) (r : ℕ) → Some (l, r) ≡ slice_get sorted 0 → (q : L × ℕ) → Contains held q → r ≤ q.1
  first_is_least l r at q held = let w = by_rank l r 0 at q held in elim w.2 [ inl e ↦ omega (arith, e.1) | inr (inl b) ↦ absurd (omega (arith, b.0)) | inr (inr b) ↦ omega (arith, b.1) ]

  -- No number is above the last one.
  pub last_is_greatest : (l : L) (r : ℕ) → Some (l, r) ≡ slice_get sorted (length sorted - 1) → (q : L × ℕ) → Contains held q → q.1 ≤ r
  last_is_greatest l r at q held = let w = by_rank l r (length sorted - 1) at q held in elim w.2 [ inl e ↦ omega (arith, e.1) | inr (inl b) ↦ omega (arith, b.1) | inr (inr b) ↦ absurd (omega (arith, w.1, b.0)) ]

  -- The number after the last one is above all numbers.
  pub next_is_above : (l : L) (r : ℕ) → Some (l, r) ≡ slice_get sorted (length sorted - 1) → (q : L × ℕ) → Contains held q → q.1 < r + 1
  next_is_above l r at q held = omega (arith, last_is_greatest l r at q held)

  -- The number after the last one is free.
  pub after_last : (l : L) (r : ℕ) → Some (l, r) ≡ slice_get sorted (length sorted - 1) → (q : L × ℕ) → Contains held q → nat_eq q.1 (r + 1) ≡ false
  after_last l r at q held = ne_eqb q.1 (r + 1) (λ e. omega (arith, next_is_above l r at q held, e))

  -- If there is no last pair, each number is free.
  pub none_last : None ≡ slice_get sorted (length sorted - 1) → (q : L × ℕ) → Contains held q → (r : ℕ) → nat_eq q.1 r ≡ false
  none_last at q held r =
      let m = (sorts.same q).0 held in
      absurd (omega (arith, m.1, none_at sorted (length sorted - 1) (omega arith) at))

  -- no number is below that of the first pair, and none above that of the last, as an end by right returns them
  pub none_below : (end : Option (Bor L × Bor ℕ)) → option_map deref_pair end ≡ slice_get sorted 0 → IfSome end (λ p. (q : L × ℕ) → Contains held q → p.1.now ≤ q.1)
  none_below None at = tt
  none_below (Some p) at = first_is_least p.0.now p.1.now at

  pub none_above : (end : Option (Bor L × Bor ℕ)) → option_map deref_pair end ≡ slice_get sorted (length sorted - 1) → IfSome end (λ p. (q : L × ℕ) → Contains held q → q.1 ≤ p.1.now)
  none_above None at = tt
  none_above (Some p) at = last_is_greatest p.0.now p.1.now at

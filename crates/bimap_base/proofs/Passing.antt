-- The pairs of a store from some place on.
use Rattle.std.proofs.Common.{◌≡◌, ℕ, zero, suc, ◌+◌, ◌≤◌, List, [], ◌∷◌, length, drop, Option, Some, None, refl, sym, ap, ◌∙◌, arith}
use Rattle.std.proofs.lemmas.List.{drop_all}
use Rattle.bimap_base.specs.Places.{pairs_in}
use Rattle.bimap_base.specs.Slots.{pair_at}

module _ {P : Type 0} where
  past_free : (slots : List (Option P)) (place : ℕ) → pair_at slots place ≡ None → pairs_in (drop (suc place) slots) ≡ pairs_in (drop place slots)
  past_free [] zero is = refl
  past_free [] (suc place) is = refl
  past_free (x ∷ slots) zero is = sym (ap (λ z. pairs_in (z ∷ slots)) is)
  past_free (x ∷ slots) (suc place) is = past_free slots place is

  past_live : (slots : List (Option P)) (place : ℕ) (p : P) → pair_at slots place ≡ Some p → pairs_in (drop place slots) ≡ p ∷ pairs_in (drop (suc place) slots)
  past_live [] place p is = absurd (cc)
  past_live (x ∷ slots) zero p is = ap (λ z. pairs_in (z ∷ slots)) is
  past_live (x ∷ slots) (suc place) p is = past_live slots place p is

  module _ (slots : List (Option P)) (place : ℕ) where
    next : suc place ≡ place + 1
    next = omega arith

    -- A free place adds no pair.
    pub from_free : pair_at slots place ≡ None → pairs_in (drop (place + 1) slots) ≡ pairs_in (drop place slots)
    from_free is = ap (λ k. pairs_in (drop k slots)) (sym next) ∙ past_free slots place is

    -- A place with a pair adds this pair.
    pub from_live : (p : P) → pair_at slots place ≡ Some p → pairs_in (drop place slots) ≡ p ∷ pairs_in (drop (place + 1) slots)
    from_live p is = past_live slots place p is ∙ ap (λ k. p ∷ pairs_in (drop k slots)) next

    -- Beyond the last place there is no pair.
    pub from_end : length slots ≤ place → pairs_in (drop place slots) ≡ []
    from_end end = ap pairs_in (drop_all place slots end)

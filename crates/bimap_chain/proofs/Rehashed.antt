-- The places of an index are listed again, one after another, each under the number of its key.
use Rattle.std.proofs.Common.{◌≡◌, ℕ, ◌+◌, ◌<◌, ◌≤◌, Bool, true, false, length, Option, None, Some, is_some, refl, sym, ap, ◌∙◌, arith, inl, inr, true≢false, get_or-set_same, get_or-set_other}
use Rattle.std.specs.Prelude.{slice_set, IfSome}
use Rattle.std.specs.Option.{option_map}
use Rattle.std.proofs.lemmas.Bool.{cases_eq, cases_lt}
use Rattle.std.proofs.lemmas.List.{get_or_past}
use Rattle.bimap_chain.specs.Chains.{Numbers, number_at}

module _ {Key : Type 0} (key_at : ℕ → Option Key) (number_of : Key → ℕ) where
  -- The places below `place` are listed under the numbers of their keys, and no other place is listed.
  pub record IsRehashedTo (place : ℕ) (numbers : Numbers) : Type 0 where
    pub below : (p : ℕ) → p < place → number_at numbers p ≡ option_map number_of (key_at p)
    pub above : (p : ℕ) → place ≤ p → number_at numbers p ≡ None

  numbered : (o : Option Key) (n : ℕ) → is_some o ≡ true → IfSome o (λ k. n ≡ number_of k) → Some n ≡ option_map number_of o
  numbered None n some h = absurd (true≢false (sym some))
  numbered (Some k) n some h = ap Some h

  unnumbered : (o : Option Key) → is_some o ≡ false → None ≡ option_map number_of o
  unnumbered None none = refl
  unnumbered (Some k) none = absurd (true≢false none)

  -- One more place is listed.
  pub one_more : (place n : ℕ) (numbers : Numbers) → place < length numbers → is_some (key_at place) ≡ true → IfSome (key_at place) (λ k. n ≡ number_of k) → IsRehashedTo place numbers → IsRehashedTo (place + 1) (slice_set numbers place (Some n))
  one_more place n numbers inside some h so_far =
      record {
        below = λ p less. elim (cases_eq p place) [
          | inl e ↦ ap (number_at (slice_set numbers place (Some n))) e ∙ get_or-set_same numbers place (Some n) None inside ∙ numbered (key_at place) n some h ∙ ap (λ q. option_map number_of (key_at q)) (sym e)
          | inr away ↦ get_or-set_other numbers place p (Some n) None away ∙ so_far.below p (omega (arith, less, away))
        ];
        above = λ p more. get_or-set_other numbers place p (Some n) None (λ e. let no : ⊥ = omega (arith, more, e) in no) ∙ so_far.above p (omega (arith, more));
      }

  -- One more place has no key.
  pub none_more : (place : ℕ) (numbers : Numbers) → is_some (key_at place) ≡ false → IsRehashedTo place numbers → IsRehashedTo (place + 1) numbers
  none_more place numbers none so_far =
      record {
        below = λ p less. elim (cases_eq p place) [
          | inl e ↦ so_far.above p (omega (arith, e)) ∙ unnumbered (key_at place) none ∙ ap (λ q. option_map number_of (key_at q)) (sym e)
          | inr away ↦ so_far.below p (omega (arith, less, away))
        ];
        above = λ p more. so_far.above p (omega (arith, more));
      }

  -- All places are listed.
  pub all_listed : (place : ℕ) (old numbers : Numbers) → ((p : ℕ) → is_some (key_at p) ≡ is_some (number_at old p)) → length old ≤ place → IsRehashedTo place numbers → (p : ℕ) → number_at numbers p ≡ option_map number_of (key_at p)
  all_listed place old numbers keys past done p =
      elim (cases_lt p place) [
        | inl less ↦ done.below p less
        | inr more ↦ done.above p more ∙ unnumbered (key_at p) (keys p ∙ ap is_some (get_or_past old p None (omega (arith, past, more))))
      ]

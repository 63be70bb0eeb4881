-- A replacement leaves what a removal and then an insertion leave.
use Rattle.std.proofs.Common.{◌≡◌, ◌↔◌, ◌⊎◌, ◌∙◌, inl, inr, ℕ, Bool, true, false, List, [], ◌∷◌, ◌++◌, refl, sym, ap, subst, true≢false, append_assoc}
use Rattle.std.specs.Prelude.{Contains}
use Rattle.std.specs.Cmp.{IsEquivalence}
use Rattle.std.proofs.lemmas.Bool.{false_from_ne_true, or_left, or_right}
use Rattle.serde_json.specs.Data.{Data}
use Rattle.bimap.specs.Sets.{shares, IsApart}
use Rattle.bimap.specs.Exchange.{IsExchanged, IsPartReplaced}
use Rattle.bimap_base.proofs.Apart.{apart_unique}
use Rattle.bimap_journal.specs.declared.change.Change.{Change}
use Rattle.bimap_journal.specs.declared.change.Change.TheVariants.{Insert, RemoveByLeft, RemoveByRight}
use Rattle.bimap_journal.specs.Changes.{IsAfter, IsLineOf, AreKept}
use Rattle.bimap_journal.proofs.Changed.{after_left, after_right}
use Rattle.bimap_journal.proofs.Kept.{kept_more}

module _ {L R : Type 0} (same_left : L → L → Bool) (same_right : R → R → Bool) (left : IsEquivalence same_left) (right : IsEquivalence same_right) (old new : List (L × R)) (apart_old : IsApart same_left same_right old) (apart_new : IsApart same_left same_right new) where
  unique_in : (p q : L × R) → Contains old p → Contains old q → shares same_left same_right p q ≡ true → p ≡ q
  unique_in p q = apart_unique same_left same_right left right old p q apart_old

  -- One pair is gone, the only one that passes the test. Another one was made, which shares a value with it.
  module _ (passes : L × R → Bool) (gone made : L × R) (passed : passes gone ≡ true) (unique : (q : L × R) → Contains old q → passes q ≡ true → q ≡ gone) (share : shares same_left same_right made gone ≡ true) (exchanged : IsExchanged (Contains old) gone made (Contains new)) where
    made_again : (q : L × R) → Contains old q → Contains new q → shares same_left same_right q made ≡ true → q ≡ gone
    made_again q was is e =
        let same : q ≡ made = apart_unique same_left same_right left right new q made apart_new is ((exchanged.exchanged made).1 (inl refl)) e in
        same ∙ unique_in made gone (subst (λ p. Contains old p) same was) exchanged.member share

    removed_and_made : (q : L × R) → Contains new q ↔ ((q ≡ made) ⊎ ((Contains old q × (passes q ≡ false)) × (shares same_left same_right q made ≡ true → ⊥)))
    removed_and_made q = (
      λ t. elim ((exchanged.exchanged q).0 t) [
        | inl e ↦ inl e
        | inr s ↦ inr ((s.0, false_from_ne_true (passes q) (λ e. s.1 (unique q s.0 e))), λ e. s.1 (made_again q s.0 t e))
      ],
      λ w. (exchanged.exchanged q).1 (elim w [ inl e ↦ inl e | inr s ↦ inr (s.0.0, λ e. true≢false (sym (ap passes e ∙ passed) ∙ s.0.1)) ]),
    )

  pub after_left_replaced : (from to taken x : L) (r : R) → IsPartReplaced (λ p. p.0) (λ l s. (l, s)) same_left (Contains old) from to taken (Contains new) → Contains old (x, r) → same_left x from ≡ true
      → IsAfter same_left same_right (Insert to r) (λ q. Contains old q × (same_left q.0 from ≡ false)) (Contains new)
  after_left_replaced from to taken x r e held by_left =
      let unique : (q : L × R) → Contains old q → same_left q.0 from ≡ true → q ≡ (taken, e.other) =
      λ q s p. unique_in q (taken, e.other) s e.exchanged.member (or_left _ _ (left.symm q.0 taken ∙ left.congr taken from q.0 e.by_part ∙ left.symm from q.0 ∙ p)) in
      let other : e.other ≡ r = sym (ap (λ p. p.1) (unique (x, r) held by_left)) in
      subst (λ s. IsAfter same_left same_right (Insert to s) (λ q. Contains old q × (same_left q.0 from ≡ false)) (Contains new)) other
      (removed_and_made (λ q. same_left q.0 from) (taken, e.other) (to, e.other) e.by_part unique (or_right _ _ (right.refl e.other)) e.exchanged)

  pub after_right_replaced : (from to taken x : R) (l : L) → IsPartReplaced (λ p. p.1) (λ s k. (k, s)) same_right (Contains old) from to taken (Contains new) → Contains old (l, x) → same_right x from ≡ true
      → IsAfter same_left same_right (Insert l to) (λ q. Contains old q × (same_right q.1 from ≡ false)) (Contains new)
  after_right_replaced from to taken x l e held by_right =
      let unique : (q : L × R) → Contains old q → same_right q.1 from ≡ true → q ≡ (e.other, taken) =
      λ q s p. unique_in q (e.other, taken) s e.exchanged.member (or_right _ _ (right.symm q.1 taken ∙ right.congr taken from q.1 e.by_part ∙ right.symm from q.1 ∙ p)) in
      let other : e.other ≡ l = sym (ap (λ p. p.0) (unique (l, x) held by_right)) in
      subst (λ k. IsAfter same_left same_right (Insert k to) (λ q. Contains old q × (same_right q.1 from ≡ false)) (Contains new)) other
      (removed_and_made (λ q. same_right q.1 from) (e.other, taken) (e.other, to) e.by_part unique (or_left _ _ (left.refl e.other)) e.exchanged)

module _ {L R : Type 0} (reads_left : Data → L → Type 0) (reads_right : Data → R → Type 0) (same_left : L → L → Bool) (same_right : R → R → Bool) (left : IsEquivalence same_left) (right : IsEquivalence same_right) (texts : List (List ℕ)) (first second : List ℕ) (S T : L × R → Type 0) (kept : AreKept same_left same_right reads_left reads_right texts S) where
  abbrev Line : Change L R → List ℕ → Type 0
  Line = IsLineOf same_left same_right reads_left reads_right

  two_kept : (M : L × R → Type 0) (change other : Change L R) → Line change first → IsAfter same_left same_right change S M → Line other second → IsAfter same_left same_right other M T → AreKept same_left same_right reads_left reads_right (texts ++ first ∷ second ∷ []) T
  two_kept M change other one after two last =
      subst (λ ts. AreKept same_left same_right reads_left reads_right ts T) (append_assoc texts (first ∷ []) (second ∷ []))
      (kept_more reads_left reads_right same_left same_right left right (texts ++ first ∷ []) second other M T
      (kept_more reads_left reads_right same_left same_right left right texts first change S M kept one after) two last)

  pub left_kept : (from to : L) (r : R) → Line (RemoveByLeft from) first → Line (Insert to r) second → IsAfter same_left same_right (Insert to r) (λ q. S q × (same_left q.0 from ≡ false)) T → AreKept same_left same_right reads_left reads_right (texts ++ first ∷ second ∷ []) T
  left_kept from to r one two last =
      two_kept (λ q. S q × (same_left q.0 from ≡ false)) (RemoveByLeft from) (Insert to r) one (after_left same_left same_right S (λ q. S q × (same_left q.0 from ≡ false)) from (λ q. (λ s. s, λ s. s))) two last

  pub right_kept : (from to : R) (l : L) → Line (RemoveByRight from) first → Line (Insert l to) second → IsAfter same_left same_right (Insert l to) (λ q. S q × (same_right q.1 from ≡ false)) T → AreKept same_left same_right reads_left reads_right (texts ++ first ∷ second ∷ []) T
  right_kept from to l one two last =
      two_kept (λ q. S q × (same_right q.1 from ≡ false)) (RemoveByRight from) (Insert l to) one (after_right same_left same_right S (λ q. S q × (same_right q.1 from ≡ false)) from (λ q. (λ s. s, λ s. s))) two last

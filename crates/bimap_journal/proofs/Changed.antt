-- What a change makes of two sets of pairs that are equal.
use Rattle.std.proofs.Common.{◌≡◌, ◌↔◌, ◌⊎◌, ◌∙◌, inl, inr, Bool, true, List, [], ◌∷◌, ◌++◌, refl, sym, ap, subst, ◌||◌, ◌&&◌, false, true≢false}
use Rattle.std.specs.Cmp.{IsEquivalence, first_so, second_so}
use Rattle.bimap.specs.Same.{pair_eq, HasEqual}
use Rattle.bimap.specs.Survivors.{IsPutToStay}
use Rattle.bimap_any.proofs.Survivors.{survivors_push, put_touches}
use Rattle.std.proofs.lemmas.Bool.{false_from_ne_true}
use Rattle.bimap.specs.Sets.{IsWithPut}
use Rattle.bimap_journal.specs.declared.change.Change.{Change}
use Rattle.bimap_journal.specs.declared.change.Change.TheVariants.{Insert, RemoveByLeft, RemoveByRight, Clear}
use Rattle.bimap_journal.specs.Changes.{Puts, Touches, AreAlike, IsAfter, AreEqual}

-- Equal values are equal to equal values.
alike : {K : Type 0} {E : K → K → Bool} → IsEquivalence E → (x y a b : K) → E x y ≡ true → E a b ≡ true → E x a ≡ E y b
alike e x y a b p q = e.congr x y a p ∙ e.symm y a ∙ e.congr a b y q ∙ e.symm b y

both : (s t : Bool) → s ≡ true → t ≡ true → (s && t) ≡ true
both s t p q = ap (λ b. b && t) p ∙ q

-- What the calls of a map make of its pairs.
module _ {L R : Type 0} (same_left : L → L → Bool) (same_right : R → R → Bool) (S T : L × R → Type 0) where
  pub after_insert : (l : L) (r : R) → IsWithPut same_left same_right S (l, r) T → IsAfter same_left same_right (Insert l r) S T
  after_insert l r put = put_touches same_left same_right S T (l, r) put

  pub after_left : (l : L) → ((p : L × R) → T p ↔ (S p × (same_left p.0 l ≡ false))) → IsAfter same_left same_right (RemoveByLeft l) S T
  after_left l without p = (
    λ t. let w = (without p).0 t in inr (w.0, λ e. true≢false (sym e ∙ w.1)),
    λ t. elim t [ inl n ↦ absurd n | inr w ↦ (without p).1 (w.0, false_from_ne_true _ w.1) ],
  )

  pub after_right : (r : R) → ((p : L × R) → T p ↔ (S p × (same_right p.1 r ≡ false))) → IsAfter same_left same_right (RemoveByRight r) S T
  after_right r without p = (
    λ t. let w = (without p).0 t in inr (w.0, λ e. true≢false (sym e ∙ w.1)),
    λ t. elim t [ inl n ↦ absurd n | inr w ↦ (without p).1 (w.0, false_from_ne_true _ w.1) ],
  )

  pub after_clear : ((p : L × R) → T p → ⊥) → IsAfter same_left same_right Clear S T
  after_clear none p = (λ t. absurd (none p t), λ t. elim t [ inl n ↦ absurd n | inr w ↦ absurd (w.1 tt) ])

module _ {L R : Type 0} (same_left : L → L → Bool) (same_right : R → R → Bool) (left : IsEquivalence same_left) (right : IsEquivalence same_right) where
  abbrev Alike : Change L R → Change L R → Type 0
  Alike = AreAlike same_left same_right

  abbrev After : Change L R → (L × R → Type 0) → (L × R → Type 0) → Type 0
  After = IsAfter same_left same_right

  lefts : (p q : L × R) → pair_eq same_left same_right p q ≡ true → same_left p.0 q.0 ≡ true
  lefts p q same = first_so (same_left p.0 q.0) (same_right p.1 q.1) same

  rights : (p q : L × R) → pair_eq same_left same_right p q ≡ true → same_right p.1 q.1 ≡ true
  rights p q same = second_so (same_left p.0 q.0) (same_right p.1 q.1) same

  turned : (p q : L × R) → pair_eq same_left same_right p q ≡ true → pair_eq same_left same_right q p ≡ true
  turned p q same = both (same_left q.0 p.0) (same_right q.1 p.1) (left.symm q.0 p.0 ∙ lefts p q same) (right.symm q.1 p.1 ∙ rights p q same)

  alike_turned : (change other : Change L R) → Alike change other → Alike other change
  alike_turned (Insert l r) (Insert k s) h = (left.symm k l ∙ h.0, right.symm s r ∙ h.1)
  alike_turned (RemoveByLeft l) (RemoveByLeft k) h = left.symm k l ∙ h
  alike_turned (RemoveByRight r) (RemoveByRight s) h = right.symm s r ∙ h
  alike_turned Clear Clear h = tt
  alike_turned (Insert l r) (RemoveByLeft k) h = absurd h
  alike_turned (Insert l r) (RemoveByRight k) h = absurd h
  alike_turned (Insert l r) Clear h = absurd h
  alike_turned (RemoveByLeft l) (Insert k s) h = absurd h
  alike_turned (RemoveByLeft l) (RemoveByRight s) h = absurd h
  alike_turned (RemoveByLeft l) Clear h = absurd h
  alike_turned (RemoveByRight r) (Insert k s) h = absurd h
  alike_turned (RemoveByRight r) (RemoveByLeft k) h = absurd h
  alike_turned (RemoveByRight r) Clear h = absurd h
  alike_turned Clear (Insert k s) h = absurd h
  alike_turned Clear (RemoveByLeft k) h = absurd h
  alike_turned Clear (RemoveByRight s) h = absurd h

  touches_alike : (change other : Change L R) (p q : L × R) → Alike change other → pair_eq same_left same_right p q ≡ true → Touches same_left same_right change p → Touches same_left same_right other q
  touches_alike (Insert l r) (Insert k s) p q h same t =
      sym (ap (λ b. b || same_right p.1 r) (alike left p.0 q.0 l k (lefts p q same) h.0) ∙ ap (λ b. same_left q.0 k || b) (alike right p.1 q.1 r s (rights p q same) h.1)) ∙ t
  touches_alike (RemoveByLeft l) (RemoveByLeft k) p q h same t = sym (alike left p.0 q.0 l k (lefts p q same) h) ∙ t
  touches_alike (RemoveByRight r) (RemoveByRight s) p q h same t = sym (alike right p.1 q.1 r s (rights p q same) h) ∙ t
  touches_alike Clear Clear p q h same t = tt
  touches_alike (Insert l r) (RemoveByLeft k) p q h same t = absurd h
  touches_alike (Insert l r) (RemoveByRight k) p q h same t = absurd h
  touches_alike (Insert l r) Clear p q h same t = absurd h
  touches_alike (RemoveByLeft l) (Insert k s) p q h same t = absurd h
  touches_alike (RemoveByLeft l) (RemoveByRight s) p q h same t = absurd h
  touches_alike (RemoveByLeft l) Clear p q h same t = absurd h
  touches_alike (RemoveByRight r) (Insert k s) p q h same t = absurd h
  touches_alike (RemoveByRight r) (RemoveByLeft k) p q h same t = absurd h
  touches_alike (RemoveByRight r) Clear p q h same t = absurd h
  touches_alike Clear (Insert k s) p q h same t = absurd h
  touches_alike Clear (RemoveByLeft k) p q h same t = absurd h
  touches_alike Clear (RemoveByRight s) p q h same t = absurd h

  puts_alike : (change other : Change L R) (p : L × R) → Alike change other → Puts change p → HasEqual same_left same_right (Puts other) p
  puts_alike (Insert l r) (Insert k s) p h e = ((k, s), refl, subst (λ q. pair_eq same_left same_right q (k, s) ≡ true) (sym e) (both (same_left l k) (same_right r s) h.0 h.1))
  puts_alike (Insert l r) (RemoveByLeft k) p h e = absurd h
  puts_alike (Insert l r) (RemoveByRight k) p h e = absurd h
  puts_alike (Insert l r) Clear p h e = absurd h
  puts_alike (RemoveByLeft l) other p h e = absurd e
  puts_alike (RemoveByRight r) other p h e = absurd e
  puts_alike Clear other p h e = absurd e

  module _ (S T U V : L × R → Type 0) where
    one_way : (change other : Change L R) → Alike change other → ((p : L × R) → S p → HasEqual same_left same_right U p) → After change S T → After other U V → (p : L × R) → T p → HasEqual same_left same_right V p
    one_way change other h equal first second p t =
        elim ((first p).0 t) [
          | inl puts ↦ let q = puts_alike change other p h puts in (q.0, (second q.0).1 (inl q.1), q.2)
          | inr old ↦
              let q = equal p old.0 in
              (q.0, (second q.0).1 (inr (q.1, λ t. old.1 (touches_alike other change q.0 p (alike_turned change other h) (turned p q.0 q.2) t))), q.2)
        ]

  -- Alike changes make equal sets of equal sets.
  pub after_alike : (S T U V : L × R → Type 0) (change other : Change L R) → Alike change other → AreEqual same_left same_right S U → After change S T → After other U V → AreEqual same_left same_right T V
  after_alike S T U V change other h equal first second =
      record {
        there = one_way S T U V change other h equal.there first second;
        back = one_way U V S T other change (alike_turned change other h) equal.back second first;
      }

  -- What a further change makes of the pairs that stay.
  pub stays_push : (changes : List (Change L R)) (change : Change L R) → After change (IsPutToStay Puts (Touches same_left same_right) changes) (IsPutToStay Puts (Touches same_left same_right) (changes ++ change ∷ []))
  stays_push changes change p =
      let none : L × R → Type 0 = λ q. ⊥ in
      let stays : L × R → Type 0 = λ q. IsPutToStay Puts (Touches same_left same_right) changes q in
      let after : L × R → Type 0 = λ q. Puts change q ⊎ (stays q × (Touches same_left same_right change q → ⊥)) in
      let pushed = survivors_push Puts (Touches same_left same_right) none stays after changes change
      (λ q. (λ s. inr s, λ s. elim s [ inl n ↦ absurd n.0 | inr w ↦ w ])) (λ q. (λ a. a, λ a. a)) p in
      (λ s. pushed.1 (inr s), λ a. elim (pushed.0 a) [ inl n ↦ absurd n.0 | inr w ↦ w ])

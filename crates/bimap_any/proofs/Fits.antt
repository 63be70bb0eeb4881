-- Which answers can be undone, tested one value at a time.
use Rattle.std.proofs.Common.{◌≡◌, ◌↔◌, ◌⊎◌, inl, inr, Bool, true, false, List, refl, sym, ap, ◌∙◌, subst, true≢false}
use Rattle.std.specs.Prelude.{Contains, not}
use Rattle.std.specs.Cmp.{IsEquivalence}
use Rattle.std.proofs.lemmas.Bool.{or_left, or_right, not-true, not_from_false, false_from_ne_true}
use Rattle.bimap_base.specs.Sets.{shares, IsApart, HasLeft}
use Rattle.bimap_base.specs.Answer.{IsNamed, IsBoth, named_count}
use Rattle.bimap_any.specs.Fitting.{Fits, FitsLeft, FitsRight}
use Rattle.bimap_base.specs.Undoing.{IsUndoable, AreNamedApart}
use Rattle.bimap_base.specs.declared.overwritten.Overwritten.{Overwritten}
use Rattle.bimap_base.specs.declared.overwritten.Overwritten.TheVariants.{Left, Right, Pair, Both}
use Rattle.bimap_base.proofs.Apart.{apart_unique}

-- The answer names only this pair.
pub record NamesOne {L R : Type 0} (answer : Overwritten L R) (p : L × R) : Type 0 where
  pub only : (q : L × R) → IsNamed answer q → q ≡ p
  pub is : IsNamed answer p
  pub one : named_count answer ≡ 1
  pub not_both : IsBoth answer → ⊥
  pub apart : (same_left : L → L → Bool) (same_right : R → R → Bool) → AreNamedApart same_left same_right answer

pub names_one : {L R : Type 0} (answer : Overwritten L R) (l : L) (r : R) → (answer ≡ Left l r) ⊎ ((answer ≡ Right l r) ⊎ (answer ≡ Pair l r)) → NamesOne answer (l, r)
names_one answer l r (inl e) = rw e (record { only = λ q n. n; is = refl; one = refl; not_both = λ b. b; apart = λ f g. tt })
names_one answer l r (inr (inl e)) = rw e (record { only = λ q n. n; is = refl; one = refl; not_both = λ b. b; apart = λ f g. tt })
names_one answer l r (inr (inr e)) = rw e (record { only = λ q n. n; is = refl; one = refl; not_both = λ b. b; apart = λ f g. tt })

module _ {L R : Type 0} (same_left : L → L → Bool) (same_right : R → R → Bool) (lefts : IsEquivalence same_left) (rights : IsEquivalence same_right) where
  tie : (a b c : L) → same_left a c ≡ true → same_left b c ≡ true → same_left a b ≡ true
  tie a b c e f = lefts.symm a b ∙ lefts.congr b c a f ∙ lefts.symm c a ∙ e

  module _ (xs : List (L × R)) (left : L) (apart : IsApart same_left same_right xs) where
    one_of : (p q : L × R) → Contains xs p → Contains xs q → shares same_left same_right p q ≡ true → p ≡ q
    one_of p q = apart_unique same_left same_right lefts rights xs p q apart

    -- If the bimap contains the left, and each pair of the answer fits beside the other pairs, the insertion can be undone.
    pub undoable_by : (a : Overwritten L R) → HasLeft same_left (Contains xs) left → ((q : L × R) → IsNamed a q → Fits same_left same_right (Contains xs) left q) → AreNamedApart same_left same_right a → IsUndoable same_left same_right (Contains xs) left a
    undoable_by a h f t = record {
      pair = h.0;
      member = h.1;
      by_left = h.2;
      alone = λ q s o m e. one_of s h.0 m h.1 (or_left (same_left s.0 h.0.0) (same_right s.1 h.0.1) (tie s.0 h.0.0 left (f q o s m e) h.2));
      two = t;
    }

    pub fits_from : (a : Overwritten L R) → IsUndoable same_left same_right (Contains xs) left a → (q : L × R) → IsNamed a q → Fits same_left same_right (Contains xs) left q
    fits_from a u q o s m e = subst (λ (z : L × R). same_left z.0 left ≡ true) (sym (u.alone q s o m e)) u.by_left

    -- The answer names one pair.
    pub one_pair : (a : Overwritten L R) (p : L × R) (b : Bool) → NamesOne a p → HasLeft same_left (Contains xs) left → (b ≡ true) ↔ Fits same_left same_right (Contains xs) left p → (b ≡ true) ↔ IsUndoable same_left same_right (Contains xs) left a
    one_pair a p b one h f = (
      λ e. undoable_by a h (λ q n. subst (Fits same_left same_right (Contains xs) left) (sym (one.only q n)) (f.0 e)) (one.apart same_left same_right),
      λ u. f.1 (fits_from a u p one.is),
    )

    -- The answer names two pairs.
    pub two_pairs : (p s : L × R) (b : Bool) → HasLeft same_left (Contains xs) left → Fits same_left same_right (Contains xs) left p → Fits same_left same_right (Contains xs) left s → b ≡ not (shares same_left same_right p s) → (b ≡ true) ↔ IsUndoable same_left same_right (Contains xs) left (Both p s)
    two_pairs p s b h f g e = (
      λ t. undoable_by (Both p s) h (λ q o. elim o [
        | inl m ↦ subst (Fits same_left same_right (Contains xs) left) (sym m) f
        | inr m ↦ subst (Fits same_left same_right (Contains xs) left) (sym m) g
      ]) (not-true (shares same_left same_right p s) (sym e ∙ t)),
      λ u. e ∙ ap not u.two,
    )

    -- A right that another pair may have.
    pub fits_right_by : (l : L) (r : R) → ((w : R) × Contains xs (l, w) × (same_right w r ≡ true)) → (same_left l left ≡ true) ↔ FitsRight same_left same_right (Contains xs) left r
    fits_right_by l r h = (
      λ e s m f.
          subst (λ (z : L × R). same_left z.0 left ≡ true) (sym (one_of s (l, h.0) m h.1 (or_right (same_left s.0 l) (same_right s.1 h.0) (rights.symm s.1 h.0 ∙ rights.congr h.0 r s.1 h.2 ∙ f)))) e,
      λ f. f (l, h.0) h.1 (rights.symm r h.0 ∙ h.2),
    )

  -- A left that is not equal to the given left.
  pub fits_left_by : (S : L × R → Type 0) (left l : L) (b : Bool) → same_left l left ≡ false → (b ≡ true) ↔ HasLeft same_left S l → (not b ≡ true) ↔ FitsLeft same_left S left l
  fits_left_by S left l b differ has = (
    λ e s m f. absurd (true≢false (sym (has.1 (s, m, lefts.symm s.0 l ∙ f)) ∙ not-true b e)),
    λ fits. not_from_false b (false_from_ne_true b (λ e. let h = has.0 e in true≢false (sym (sym (lefts.congr h.0.0 l left h.2) ∙ fits h.0 h.1 (lefts.symm l h.0.0 ∙ h.2)) ∙ differ))),
  )

-- The clones of pairs that share no value.
use Rattle.std.proofs.Common.{◌≡◌, inl, inr, ◌||◌, ◌&&◌, Bool, true, List, [], ◌∷◌, sym, ◌∙◌, subst, arith}
use Rattle.std.specs.Prelude.{Contains}
use Rattle.std.specs.List.{AllZip}
use Rattle.std.specs.Cmp.{IsEquivalence, first_so, second_so}
use Rattle.std.proofs.lemmas.List.Elements.{length_all_zip}
use Rattle.bimap_any.specs.Copies.{AreClonesEqual, IsCopy}
use Rattle.bimap_any.specs.Same.{pair_eq}
use Rattle.bimap_base.specs.Clones.{IsPairClone}
use Rattle.bimap_base.specs.Sets.{shares, IsApart}
use Rattle.bimap_base.proofs.Apart.{apart_head, apart_tail, apart_none, apart_more}
use Rattle.bimap_base.proofs.Members.{head_in, more_in, cases_in, none_in}

-- Each element of one list is paired with an element of the other list.
module _ {X : Type 0} (P : X → X → Type 0) where
  pub source_of : (xs ys : List X) → AllZip P xs ys → (y : X) → Contains ys y → (x : X) × Contains xs x × P x y
  source_of [] [] zip y there = none_in y there
  source_of [] (z ∷ ys) zip y there = absurd zip
  source_of (x ∷ xs) [] zip y there = absurd zip
  source_of (x ∷ xs) (z ∷ ys) zip y there =
      elim (cases_in z ys y there) [
        | inl e ↦ (x, head_in x xs, subst (P x) e zip.0)
        | inr w ↦ let s = source_of xs ys zip.1 y w in (s.0, more_in x xs s.0 s.1, s.2)
      ]

  pub image_of : (xs ys : List X) → AllZip P xs ys → (x : X) → Contains xs x → (y : X) × Contains ys y × P x y
  image_of [] [] zip x there = none_in x there
  image_of [] (y ∷ ys) zip x there = absurd zip
  image_of (z ∷ xs) [] zip x there = absurd zip
  image_of (z ∷ xs) (y ∷ ys) zip x there =
      elim (cases_in z xs x there) [
        | inl e ↦ (y, head_in y ys, subst (λ w. P w y) e zip.0)
        | inr w ↦ let s = image_of xs ys zip.1 x w in (s.0, more_in y ys s.0 s.1, s.2)
      ]

-- Two values that are each equal to another value are equal exactly if the other two are equal.
equal_along : {K : Type 0} {E : K → K → Bool} → IsEquivalence E → (a b c d : K) → E a b ≡ true → E c d ≡ true → E a c ≡ E b d
equal_along {K} {E} same a b c d e f = same.congr a b c e ∙ same.symm b c ∙ same.congr c d b f ∙ same.symm d b

module _ {L R : Type 0} (same_left : L → L → Bool) (same_right : R → R → Bool) (lefts : IsEquivalence same_left) (rights : IsEquivalence same_right) (is_clone_left : L → L → Type 0) (is_clone_right : R → R → Type 0) where
  shares_along : (p x q y : L × R) → pair_eq same_left same_right p x ≡ true → pair_eq same_left same_right q y ≡ true → shares same_left same_right p q ≡ shares same_left same_right x y
  shares_along p x q y e f =
      let l = equal_along lefts p.0 x.0 q.0 y.0 (first_so (same_left p.0 x.0) (same_right p.1 x.1) e) (first_so (same_left q.0 y.0) (same_right q.1 y.1) f) in
      let r = equal_along rights p.1 x.1 q.1 y.1 (second_so (same_left p.0 x.0) (same_right p.1 x.1) e) (second_so (same_left q.0 y.0) (same_right q.1 y.1) f) in
      λ i. l i || r i

  pub equal_clone : (pairs : List (L × R)) → AreClonesEqual is_clone_left is_clone_right same_left same_right pairs → (p q : L × R) → Contains pairs p → IsPairClone is_clone_left is_clone_right p q → pair_eq same_left same_right p q ≡ true
  equal_clone pairs equal p q there clone =
      let l = equal.left p there q.0 clone.0 in
      let r = equal.right p there q.1 clone.1 in
      λ i. l i && r i

  -- The same is true of fewer pairs.
  pub equal_among : (ps qs : List (L × R)) → ((p : L × R) → Contains qs p → Contains ps p) → AreClonesEqual is_clone_left is_clone_right same_left same_right ps → AreClonesEqual is_clone_left is_clone_right same_left same_right qs
  equal_among ps qs within equal = record {
    left = λ p there. equal.left p (within p there);
    right = λ p there. equal.right p (within p there);
  }

  pub apart_clones : (ps qs : List (L × R)) → AreClonesEqual is_clone_left is_clone_right same_left same_right ps → AllZip (IsPairClone is_clone_left is_clone_right) ps qs → IsApart same_left same_right ps → IsApart same_left same_right qs
  apart_clones [] [] equal zip apart = apart_none same_left same_right
  apart_clones [] (q ∷ qs) equal zip apart = absurd zip
  apart_clones (p ∷ ps) [] equal zip apart = absurd zip
  apart_clones (p ∷ ps) (q ∷ qs) equal zip apart =
      let later = equal_among (p ∷ ps) ps (more_in p ps) equal in
      apart_more same_left same_right q qs
      (λ y there.
      let s = source_of (IsPairClone is_clone_left is_clone_right) ps qs zip.1 y there in
      let first = equal_clone (p ∷ ps) equal p q (head_in p ps) zip.0 in
      let second = equal_clone (p ∷ ps) equal s.0 y (more_in p ps s.0 s.1) s.2 in
      sym (shares_along p q s.0 y first second) ∙ apart_head same_left same_right p ps apart s.0 s.1)
      (apart_clones ps qs later zip.1 (apart_tail same_left same_right p ps apart))

  -- One clone for each pair makes a copy.
  pub copy_of_clones : (old new : List (L × R)) → AreClonesEqual is_clone_left is_clone_right same_left same_right old → AllZip (IsPairClone is_clone_left is_clone_right) old new → IsCopy is_clone_left is_clone_right same_left same_right old new
  copy_of_clones old new equal zip =
      record {
        clones = new;
        one_for_each = zip;
        held = λ p. (λ there. there, λ there. there);
        equal = (
          omega (arith, length_all_zip (IsPairClone is_clone_left is_clone_right) old new zip),
          λ p there.
              let s = image_of (IsPairClone is_clone_left is_clone_right) old new zip p there in
              (s.0, s.1, equal_clone old equal p s.0 there s.2),
        );
      }

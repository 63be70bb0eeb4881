-- Two sets of pairs are compared by a look-up of each pair of one set in the other.
use Rattle.std.proofs.Common.{◌≡◌, ◌↔◌, inl, inr, ◌&&◌, Bool, true, false, List, [], ◌∷◌, ◌++◌, length, sym, ap, ◌∙◌, subst, true≢false, append_assoc, append-nil}
use Rattle.std.specs.Prelude.{Contains}
use Rattle.std.specs.Cmp.{IsEquivalence, first_so, second_so}
use Rattle.std.proofs.lemmas.Bool.{or_left, false_from_ne_true}
use Rattle.std.proofs.lemmas.List.Elements.{Contains-append_right, Contains-push_cases}
use Rattle.bimap_any.specs.Same.{same, HasEqual}
use Rattle.bimap_base.specs.Sets.{IsApart, LacksLeft}
use Rattle.bimap_base.proofs.Apart.{apart_unique}
use Rattle.bimap_base.proofs.Members.{head_in}
use Rattle.bimap_any.proofs.SameSets.{same_decides}

module _ {L R : Type 0} (same_left : L → L → Bool) (same_right : R → R → Bool) where
  -- Each pair except those in `rest` has an equal pair.
  pub record IsMetUpTo (xs rest ys : List (L × R)) : Type 0 where
    pub before : List (L × R)
    pub split : xs ≡ before ++ rest
    pub met : (p : L × R) → Contains before p → HasEqual same_left same_right (Contains ys) p

  pub met_more : (xs rest ys : List (L × R)) (p : L × R) → IsMetUpTo xs (p ∷ rest) ys → HasEqual same_left same_right (Contains ys) p → IsMetUpTo xs rest ys
  met_more xs rest ys p so_far one =
      record {
        before = so_far.before ++ p ∷ [];
        split = so_far.split ∙ sym (append_assoc so_far.before (p ∷ []) rest);
        met = λ q there. elim (Contains-push_cases so_far.before p q there) [
          | inl w ↦ so_far.met q w
          | inr e ↦ subst (HasEqual same_left same_right (Contains ys)) e one
        ];
      }

  pub met_all : (xs ys : List (L × R)) → length xs ≡ length ys → IsMetUpTo xs [] ys → same same_left same_right xs ys ≡ true
  met_all xs ys long so_far =
      let all : so_far.before ≡ xs = sym (so_far.split ∙ append-nil so_far.before) in
      (same_decides same_left same_right xs ys).1 (long, λ p there. so_far.met p (subst (λ zs. Contains zs p) (sym all) there))

  -- Some pair has no equal pair.
  pub unmet : (xs rest ys : List (L × R)) (p : L × R) → IsMetUpTo xs (p ∷ rest) ys → (HasEqual same_left same_right (Contains ys) p → ⊥) → same same_left same_right xs ys ≡ false
  unmet xs rest ys p so_far none =
      let there : Contains xs p = subst (λ zs. Contains zs p) (sym so_far.split) (Contains-append_right so_far.before (p ∷ rest) p (head_in p rest)) in
      false_from_ne_true (same same_left same_right xs ys) (λ e. none (((same_decides same_left same_right xs ys).0 e).1 p there))

  pub unlike_long : (xs ys : List (L × R)) → (length xs ≡ length ys → ⊥) → same same_left same_right xs ys ≡ false
  unlike_long xs ys differ = false_from_ne_true (same same_left same_right xs ys) (λ e. differ ((same_decides same_left same_right xs ys).0 e).0)

  module _ (lefts : IsEquivalence same_left) (rights : IsEquivalence same_right) (ps : List (L × R)) (p : L × R) where
    -- If some pair has the left, its right decides.
    pub decided_by_right : (l : L) (r : R) → IsApart same_left same_right ps → Contains ps (l, r) → same_left l p.0 ≡ true → (same_right p.1 r ≡ true) ↔ HasEqual same_left same_right (Contains ps) p
    decided_by_right l r apart there equal = (
      λ e. let f = lefts.symm p.0 l ∙ equal in ((l, r), there, λ i. f i && e i),
      λ has.
          let first = first_so (same_left p.0 has.0.0) (same_right p.1 has.0.1) has.2 in
          let second = second_so (same_left p.0 has.0.0) (same_right p.1 has.0.1) has.2 in
          let tie = or_left (same_left l has.0.0) (same_right r has.0.1) (lefts.congr l p.0 has.0.0 equal ∙ first) in
          let one : (l, r) ≡ has.0 = apart_unique same_left same_right lefts rights ps (l, r) has.0 apart there has.1 tie in
          ap (λ q. same_right p.1 q.1) one ∙ second,
    )

    -- If no pair has the left, there is no equal pair.
    pub lacking_left : LacksLeft same_left (Contains ps) p.0 → HasEqual same_left same_right (Contains ps) p → ⊥
    lacking_left none has =
        let first = first_so (same_left p.0 has.0.0) (same_right p.1 has.0.1) has.2 in
        true≢false (sym (lefts.symm has.0.0 p.0 ∙ first) ∙ none has.0 has.1)

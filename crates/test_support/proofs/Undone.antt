-- A pair that is taken out, and pairs that come back for it.
use Rattle.std.proofs.Common.{◌≡◌, inl, inr, Bool, false, List, [], ◌∷◌, ◌++◌, refl, sym, ap, ◌∙◌, subst, true≢false}
use Rattle.std.specs.Prelude.{Contains}
use Rattle.std.specs.Cmp.{IsEquivalence}
use Rattle.std.proofs.lemmas.Bool.{false_from_ne_true}
use Rattle.std.proofs.lemmas.List.Elements.{Contains-append_left, Contains-push, Contains-push_cases}
use Rattle.bimap_base.specs.Sets.{shares, IsApart, IsWithoutLeft}
use Rattle.bimap_base.specs.Answer.{IsNamed}
use Rattle.bimap_base.specs.Undoing.{AreNamedApart, IsUndoable, IsUndone}
use Rattle.bimap_base.specs.declared.overwritten.Overwritten.{Overwritten}
use Rattle.bimap_base.specs.declared.overwritten.Overwritten.TheVariants.{Both}
use Rattle.bimap_base.proofs.Apart.{shares_symm}
use Rattle.test_support.proofs.Removal.{apart_push}

module _ {L R : Type 0} (same_left : L → L → Bool) (same_right : R → R → Bool) where
  -- one pair came back
  pub one_back : (old mid new : List (L × R)) (left : L) (answer : Overwritten L R) (p : L × R) → IsWithoutLeft same_left (Contains old) left (Contains mid) → new ≡ mid ++ p ∷ [] → ((q : L × R) → IsNamed answer q → q ≡ p) → IsNamed answer p → IsUndone same_left same_right (Contains old) left answer (Contains new)
  one_back old mid new left answer p without e one is q = (
    λ m. elim (Contains-push_cases mid p q (subst (λ (ws : List (L × R)). Contains ws q) e m)) [ inl n ↦ inr ((without q).0 n) | inr w ↦ inl (subst (IsNamed answer) w is) ],
    λ m. subst (λ (ws : List (L × R)). Contains ws q) (sym e) (elim m [
      | inl n ↦ subst (λ (x : L × R). Contains (mid ++ p ∷ []) x) (sym (one q n)) (Contains-push mid p)
      | inr w ↦ Contains-append_left mid (p ∷ []) q ((without q).1 w)
    ]),
  )

  -- two pairs came back
  pub two_back : (old mid more new : List (L × R)) (left : L) (p s : L × R) → IsWithoutLeft same_left (Contains old) left (Contains mid) → more ≡ mid ++ p ∷ [] → new ≡ more ++ s ∷ [] → IsUndone same_left same_right (Contains old) left (Both p s) (Contains new)
  two_back old mid more new left p s without e f q = (
    λ m. elim (Contains-push_cases more s q (subst (λ (ws : List (L × R)). Contains ws q) f m)) [
      | inl n ↦ elim (Contains-push_cases mid p q (subst (λ (ws : List (L × R)). Contains ws q) e n)) [ inl k ↦ inr ((without q).0 k) | inr w ↦ inl (inl (sym w)) ]
      | inr w ↦ inl (inr (sym w))
    ],
    λ m. subst (λ (ws : List (L × R)). Contains ws q) (sym f) (elim m [
      | inl n ↦ elim n [
        | inl w ↦ Contains-append_left more (s ∷ []) q (subst (λ (ws : List (L × R)). Contains ws q) (sym e) (subst (λ (x : L × R). Contains (mid ++ p ∷ []) x) (sym w) (Contains-push mid p)))
        | inr w ↦ subst (λ (x : L × R). Contains (more ++ s ∷ []) x) (sym w) (Contains-push more s)
      ]
      | inr w ↦ Contains-append_left more (s ∷ []) q (subst (λ (ws : List (L × R)). Contains ws q) (sym e) (Contains-append_left mid (p ∷ []) q ((without q).1 w)))
    ]),
  )

module _ {L R : Type 0} (same_left : L → L → Bool) (same_right : R → R → Bool) (lefts : IsEquivalence same_left) (rights : IsEquivalence same_right) where
  module _ (old mid : List (L × R)) (left : L) (answer : Overwritten L R) (without : IsWithoutLeft same_left (Contains old) left (Contains mid)) (may : IsUndoable same_left same_right (Contains old) left answer) where
    -- a pair of the answer shares no value with those that are left
    named_free : (p q : L × R) → IsNamed answer p → Contains mid q → shares same_left same_right q p ≡ false
    named_free p q n m = false_from_ne_true (shares same_left same_right q p) (λ e.
        true≢false (sym may.by_left ∙ ap (λ (z : L × R). same_left z.0 left) (sym (may.alone p q n ((without q).0 m).0 (shares_symm same_left same_right lefts rights p q ∙ e))) ∙ ((without q).0 m).1))

    pub one_apart : (new : List (L × R)) (p : L × R) → IsApart same_left same_right mid → new ≡ mid ++ p ∷ [] → IsNamed answer p → IsApart same_left same_right new
    one_apart new p h e n = subst (IsApart same_left same_right) (sym e) (apart_push same_left same_right lefts rights mid p h (λ q m. named_free p q n m))

    pub two_apart : (more new : List (L × R)) (p s : L × R) → IsApart same_left same_right mid → more ≡ mid ++ p ∷ [] → new ≡ more ++ s ∷ [] → answer ≡ Both p s → IsApart same_left same_right new
    two_apart more new p s h e f is =
        let named_p : IsNamed answer p = subst (λ a. IsNamed a p) (sym is) (inl refl) in
        let named_s : IsNamed answer s = subst (λ a. IsNamed a s) (sym is) (inr refl) in
        let two : shares same_left same_right p s ≡ false = subst (AreNamedApart same_left same_right) is may.two in
        subst (IsApart same_left same_right) (sym f) (apart_push same_left same_right lefts rights more s (one_apart more p h e named_p)
        (λ q m. elim (Contains-push_cases mid p q (subst (λ (ws : List (L × R)). Contains ws q) e m)) [
          | inl k ↦ named_free s q named_s k
          | inr w ↦ subst (λ z. shares same_left same_right z s ≡ false) w two
        ]))

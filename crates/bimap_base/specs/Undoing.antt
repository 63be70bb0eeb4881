-- How insertions are undone.
use Rattle.std.specs.Prelude.{◌≡◌, ◌↔◌, ◌⊎◌, Bool, true, false, List, [], ◌∷◌, Contains}
use Rattle.bimap_base.specs.Sets.{shares, IsApart, IsWithPut, IsSameSet}
use Rattle.bimap_base.specs.Answer.{IsAnswer, IsNamed}
use Rattle.bimap_base.specs.declared.overwritten.Overwritten.{Overwritten}
use Rattle.bimap_base.specs.declared.overwritten.Overwritten.TheVariants.{Both}

module _ {L R : Type 0} (same_left : L → L → Bool) (same_right : R → R → Bool) where
  -- If the answer names two pairs, they share no value.
  abbrev pub AreNamedApart : Overwritten L R → Type 0
  AreNamedApart (Both q s) = shares same_left same_right q s ≡ false
  AreNamedApart answer = Unit {0}

  -- A member of S has the left. The pairs that the answer names share no value with any other member, nor with each other.
  pub record IsUndoable (S : L × R → Type 0) (left : L) (answer : Overwritten L R) : Type 0 where
    pub pair : L × R
    pub member : S pair
    pub by_left : same_left pair.0 left ≡ true
    pub alone : (q s : L × R) → IsNamed answer q → S s → shares same_left same_right q s ≡ true → s ≡ pair
    pub two : AreNamedApart answer

  -- T is S without the pair of the left, and with the pairs that the answer names.
  abbrev pub IsUndone : (L × R → Type 0) → L → Overwritten L R → (L × R → Type 0) → Type 0
  IsUndone S left answer T = (q : L × R) → T q ↔ (IsNamed answer q ⊎ (S q × (same_left q.0 left ≡ false)))

  -- An insertion of a pair with an equal left returns this answer, and leads from A to B.
  pub record IsInserting (A : List (L × R)) (left : L) (answer : Overwritten L R) (B : List (L × R)) : Type 0 where
    pub pair : L × R
    pub by_left : same_left pair.0 left ≡ true
    pub is_answer : IsAnswer same_left same_right (Contains A) pair answer
    pub put : IsWithPut same_left same_right (Contains A) pair (Contains B)

  -- Insertions of pairs with these lefts return these answers. One after the other they lead from A to S.
  abbrev pub IsTrail : List (L × R) → List (L × Overwritten L R) → List (L × R) → Type 0
  IsTrail A [] S = IsSameSet (Contains A) (Contains S)
  IsTrail A ((left, answer) ∷ entries) S =
      (B : List (L × R)) × IsApart same_left same_right B × IsInserting A left answer B × IsTrail B entries S

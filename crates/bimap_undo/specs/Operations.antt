-- Lists of operations on a map with a record.
use Rattle.std.specs.Prelude.{◌≡◌, ℕ, ◌≤◌, ◌<◌, Bool, true, false, List, [], ◌∷◌, length}
use Rattle.bimap_undo.specs.Marks.{Marked, IsRecordedInsertion, IsRecordedInsertionUnder, IsRecordedReplacementOfLeft, IsRecordedReplacementOfRight, IsRecordedRemovalByLeft, IsRecordedRemovalByRight, IsReturn}
use Rattle.bimap_undo.specs.declared.operations.Operation.{Operation}
use Rattle.bimap_undo.specs.declared.operations.Operation.TheVariants.{Insert, InsertWith, ReplaceLeft, ReplaceRight, RemoveByLeft, RemoveByRight, BackTo}
use Rattle.bimap_undo.specs.declared.operations.Outcome.{Outcome}
use Rattle.bimap_undo.specs.declared.operations.Outcome.TheVariants as outcome

-- The operation goes back to no mark below this one.
abbrev pub StaysAbove : {L R : Type 0} → ℕ → Operation L R → Type 0
StaysAbove mark (BackTo to) = mark ≤ to
StaysAbove mark operation = Unit {0}

module _ {L R : Type 0} (same_left : L → L → Bool) (same_right : R → R → Bool) where
  -- The operation led from `old` to `new` with this outcome. The contract of its method allows this.
  abbrev pub IsPerformed : Marked L R → Operation L R → Outcome L R → Marked L R → Type 0
  IsPerformed old (Insert left right) (outcome.Insert result) new = IsRecordedInsertion same_left same_right old (left, right) result new
  IsPerformed old (InsertWith left right policy) (outcome.InsertWith result) new = IsRecordedInsertionUnder same_left same_right old (left, right) policy result new
  IsPerformed old (ReplaceLeft from to) (outcome.ReplaceLeft result) new = IsRecordedReplacementOfLeft same_left same_right old from to result new
  IsPerformed old (ReplaceRight from to) (outcome.ReplaceRight result) new = IsRecordedReplacementOfRight same_left same_right old from to result new
  IsPerformed old (RemoveByLeft left) (outcome.RemoveByLeft result) new = IsRecordedRemovalByLeft same_left same_right old left result new
  IsPerformed old (RemoveByRight right) (outcome.RemoveByRight result) new = IsRecordedRemovalByRight same_left same_right old right result new
  IsPerformed old (BackTo to) (outcome.BackTo true) new = (to ≤ length old.entries) × IsReturn same_left same_right old to new
  IsPerformed old (BackTo to) (outcome.BackTo false) new = (length old.entries < to) × (new ≡ old)
  IsPerformed old operation outcome new = ⊥

  -- The operations were performed one after another, each with its outcome. They led from `old` to `new`.
  abbrev pub ArePerformed : Marked L R → List (Operation L R) → List (Outcome L R) → Marked L R → Type 0
  ArePerformed old [] [] new = new ≡ old
  ArePerformed old (operation ∷ operations) (outcome ∷ outcomes) new =
      (next : Marked L R) × IsPerformed old operation outcome next × ArePerformed next operations outcomes new
  ArePerformed old operations outcomes new = ⊥

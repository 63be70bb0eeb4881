-- An insertion that refuses to overwrite either value is one without overwriting.
use Rattle.std.proofs.Common.{Bool, Result, Ok, Err, refl, arith, Contains}
use Rattle.std.proofs.lemmas.Bool.{or_left, or_right, or_from}
use Rattle.bimap_base.specs.Sets.{NoneShares}
use Rattle.bimap_base.proofs.Counts.{none_named}
use Rattle.bimap.specs.Types.{Overwritten, Refuse, NotInsertedWith, NotInserted}
use Rattle.bimap_base.specs.declared.refusal.NotInserted.TheVariants.{Occupied}
use Rattle.bimap_base.specs.declared.refusal.NotInsertedWith.TheVariants.{LeftHeld, RightHeld}
use Rattle.bimap.specs.Holding.{Holding, IsInsertionUnder, IsInsertionWithoutOverwriting}

module _ {L R : Type 0} (same_left : L → L → Bool) (same_right : R → R → Bool) (old new : Holding L R) (pair : L × R) where
  abbrev Under : Result (Overwritten L R) (NotInsertedWith L R) → Type 0
  Under result = IsInsertionUnder same_left same_right old pair (record { left = Refuse; right = Refuse }) result new

  abbrev Without : Result (Unit {0}) (NotInserted L R) → Type 0
  Without result = IsInsertionWithoutOverwriting same_left same_right old pair result new

  pub no_overwrite : (answer : Overwritten L R) → Under (Ok answer) → Without (Ok tt)
  no_overwrite answer e =
      let none : NoneShares same_left same_right (Contains old.pairs) pair = λ q m. or_from _ _ (e.allowed.left refl q m) (e.allowed.right refl q m) in
      let named = none_named same_left same_right (Contains old.pairs) pair answer none e.answer in
      record { none_held = none; put = e.put; count = omega (arith, named, e.count); refused = tt; unchanged = tt; room = e.room }

  pub left_held : (l : L) (r : R) → Under (Err (LeftHeld l r)) → Without (Err (Occupied l r))
  left_held l r e = let h = e.refused in record { none_held = tt; put = tt; count = tt; refused = (h.0, (h.2.0, h.2.1, or_left _ _ h.2.2)); unchanged = e.unchanged; room = e.room }

  pub right_held : (l : L) (r : R) → Under (Err (RightHeld l r)) → Without (Err (Occupied l r))
  right_held l r e = let h = e.refused in record { none_held = tt; put = tt; count = tt; refused = (h.0, (h.3.0, h.3.1, or_right _ _ h.3.2)); unchanged = e.unchanged; room = e.room }

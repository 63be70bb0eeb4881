use Rattle.std.proofs.Common.{◌≡◌, Some, None, Option, ℕ, subst}
use Rattle.std.specs.Prelude.{IfSome}
use Rattle.bimap_tree.proofs.ends.End.note.Goals as goal

-- What holds of a place, if there is one.
of_some : (P : ℕ → Type 0) (found : Option ℕ) (place : ℕ) → IfSome found P → found ≡ Some place → P place
of_some P None place h e = absurd (cc)
of_some P (Some p) place h e = let same : p ≡ place = cc in subst P same h

pub returns-clause-kept : goal.returns-clause-kept
returns-clause-kept g c path s h place some = of_some _ _ place (c.note_end-self.ensures.end path s h) some

-- An insertion that succeeds if the bimap already contains an equal pair.
use Rattle.std.specs.Prelude.{◌≡◌, Bool, Result, Contains}
use Rattle.bimap_any.specs.Same.{HasEqual}
use Rattle.bimap_base.specs.Holding.{Holding, IsInsertionUnder}
use Rattle.bimap_base.specs.declared.overwritten.Overwritten.{Overwritten}
use Rattle.bimap_base.specs.declared.policy.OnHeld.TheVariants.{Overwrite}
use Rattle.bimap_base.specs.declared.policy.Policy.{Policy}
use Rattle.bimap_base.specs.declared.refusal.NotInsertedWith.{NotInsertedWith}

-- The pair is inserted under this policy. If the bimap contains an equal pair, it is inserted under a policy that overwrites on
-- both sides.
pub record IsPutting {L R : Type 0} (same_left : L → L → Bool) (same_right : R → R → Bool) (old : Holding L R) (pair : L × R) (policy : Policy) (result : Result (Overwritten L R) (NotInsertedWith L R)) (new : Holding L R) : Type 0 where
  pub used : Policy
  pub insertion : IsInsertionUnder same_left same_right old pair used result new
  pub held : HasEqual same_left same_right (Contains old.pairs) pair → used ≡ record { left = Overwrite; right = Overwrite }
  pub lacked : (HasEqual same_left same_right (Contains old.pairs) pair → ⊥) → used ≡ policy

-- A bimap with its sides exchanged. Its lefts are the rights of before.
use Rattle.std.specs.Prelude.{◌≡◌, length, Contains}
use Rattle.bimap_base.specs.Sets.{IsSameSet}
use Rattle.bimap_base.specs.Holding.{Holding}

-- The pair with its sides exchanged.
abbrev pub inverse_pair : {L R : Type 0} → L × R → R × L
inverse_pair p = (p.1, p.0)

-- The new bimap has the old pairs with their sides exchanged. The capacity is the same.
pub record IsInverse {L R : Type 0} (old : Holding L R) (new : Holding R L) : Type 0 where
  pub pairs : IsSameSet (Contains new.pairs) (λ p. Contains old.pairs (inverse_pair p))
  pub count : length new.pairs ≡ length old.pairs
  pub room : new.room ≡ old.room

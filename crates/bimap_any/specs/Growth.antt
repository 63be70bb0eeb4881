-- When a list of insertions outgrows the capacity of a bimap. `Puts e p` says that the entry `e` puts the pair `p` in. `Held
-- before p` says that `p` is in the bimap after the entries `before`.
use Rattle.std.specs.Prelude.{◌≡◌, ◌↔◌, ℕ, ◌≤◌, ◌*◌, max, Bool, List, ◌∷◌, ◌++◌, length, Contains}
use Rattle.bimap_base.specs.Sets.{NoneShares, IsApart}

module _ {L R : Type 0} (same_left : L → L → Bool) (same_right : R → R → Bool) where
  -- S has at least as many members as the capacity, each counted once.
  pub record IsOutOfRoom (S : L × R → Type 0) (room : ℕ) : Type 0 where
    pub pairs : List (L × R)
    pub apart : IsApart same_left same_right pairs
    pub members : (p : L × R) → Contains pairs p ↔ S p
    pub full : room ≤ length pairs

  module _ {E : Type 0} (Puts : E → L × R → Type 0) where
    -- The entry puts in a pair that overwrites no member of S. The bimap has one pair more afterwards.
    abbrev pub Adds : (L × R → Type 0) → E → Type 0
    Adds S entry = (p : L × R) × Puts entry p × NoneShares same_left same_right S p

    -- Some entry adds a pair when the bimap has at least as many pairs as its capacity was. The capacity that it grew to is at
    -- most 4, or at most twice the number of these pairs.
    pub record Outgrows (Held : List E → L × R → Type 0) (history : List E) (room grown : ℕ) : Type 0 where
      pub before : List E
      pub entry : E
      pub later : List E
      pub split : history ≡ before ++ entry ∷ later
      pub adds : Adds (Held before) entry
      pub full : IsOutOfRoom (Held before) room
      pub at_most : grown ≤ max 4 (2 * length full.pairs)

-- What a scanned vector of pairs shows.
use Rattle.std.specs.Prelude.{◌≡◌, ◌↔◌, ℕ, ◌+◌, ◌<◌, Bool, true, false, List, Option, Contains, MatchOption, IfNone, OnSome, vec_len, vec_capacity}
use Rattle.std.specs.Global.{Vec}
use Rattle.bimap_base.specs.Sets.{shares, IsApart}
use Rattle.bimap_base.specs.Holding.{Holding}

-- the pairs of a vector, and its capacity
abbrev pub shown : {L R : Type 0} → List (L × R) → ℕ → Holding L R
shown pairs room = record { pairs = pairs; room = room }

module _ {L R : Type 0} (same_left : L → L → Bool) (same_right : R → R → Bool) where
  -- what is left has the pairs that share no value with p
  abbrev pub IsCleared : List (L × R) → L × R → List (L × R) → Type 0
  IsCleared pairs p left = (q : L × R) → Contains left q ↔ (Contains pairs q × (shares same_left same_right q p ≡ false))

  -- the pair with this value of a part, if there is one, is taken out of a vector, and no two of the rest share
  pub record IsTaken {K : Type 0} (part : L × R → K) (same : K → K → Bool) (old : Vec (L × R)) (value : K) (result : Option (L × R)) (new : Vec (L × R)) : Type 0 where
    pub removed : MatchOption result ((q : L × R) → Contains old.items q → same (part q) value ≡ false) (λ p. Contains old.items p × (same (part p) value ≡ true))
    pub without : (q : L × R) → Contains new.items q ↔ (Contains old.items q × (same (part q) value ≡ false))
    pub apart : IsApart same_left same_right new.items
    pub unchanged : IfNone result (new.items ≡ old.items)
    pub spare : OnSome result (vec_len new < vec_capacity new)
    pub shorter : OnSome result (vec_len new + 1 ≡ vec_len old)
    pub capacity : vec_capacity new ≡ vec_capacity old

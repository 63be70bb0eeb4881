-- A pair that is removed, a pair that replaces another, and two pairs that exchange their rights.
use Rattle.std.specs.Prelude.{◌≡◌, ◌≢◌, ◌↔◌, ◌⊎◌, Bool, true, false, Result, List, length, Contains, OnOk, IfOk, IfErr, OnErr}
use Rattle.bimap_base.specs.Holding.{Holding}
use Rattle.bimap_base.specs.Sets.{HasLeft, LacksLeft}
use Rattle.bimap_base.specs.declared.refusal.NotReplaced.{NotReplaced}
use Rattle.bimap_base.specs.declared.refusal.NotReplaced.TheVariants.{Missing, Held}
use Rattle.bimap_base.specs.declared.refusal.NotSwapped.{NotSwapped}
use Rattle.bimap_base.specs.declared.refusal.NotSwapped.TheVariants.{FirstMissing, SecondMissing}

-- A contains the pair, and B is A without it.
pub record IsWithoutPair {L R : Type 0} (A : List (L × R)) (pair : L × R) (B : List (L × R)) : Type 0 where
  pub member : Contains A pair
  pub without : (q : L × R) → Contains B q ↔ (Contains A q × (q ≢ pair))

-- S contains the pair, and T is S with the other pair instead of it.
pub record IsExchanged {L R : Type 0} (S : L × R → Type 0) (pair other : L × R) (T : L × R → Type 0) : Type 0 where
  pub member : S pair
  pub exchanged : (q : L × R) → T q ↔ ((q ≡ other) ⊎ (S q × (q ≢ pair)))

-- The replacement of a value on one side. `part` gives the value that a pair has on this side. `pair` makes a pair of a value of
-- this side and a value of the other side.
module _ {L R K M : Type 0} (part : L × R → K) (pair : K → M → L × R) (same : K → K → Bool) where
  -- The pair that had `from` now has `to`. `taken` is the value that this pair had before, which is equal to `from`.
  pub record IsPartReplaced (S : L × R → Type 0) (from to taken : K) (T : L × R → Type 0) : Type 0 where
    pub other : M
    pub by_part : same taken from ≡ true
    pub exchanged : IsExchanged S (pair taken other) (pair to other) T

  -- Some pair in S has this value.
  abbrev pub HasPart : (L × R → Type 0) → K → Type 0
  HasPart S k = (q : L × R) × S q × (same (part q) k ≡ true)

  -- No pair in S has this value.
  abbrev pub LacksPart : (L × R → Type 0) → K → Type 0
  LacksPart S k = (q : L × R) → S q → same (part q) k ≡ false

  -- Why the value was not replaced. The error hands the new value back.
  abbrev pub IsPartKept : (L × R → Type 0) → K → K → NotReplaced K → Type 0
  IsPartKept S from to (Missing k) = (k ≡ to) × LacksPart S from
  IsPartKept S from to (Held k) = (k ≡ to) × HasPart S from × (same to from ≡ false) × HasPart S to

  -- What a replacement returns, and what the bimap has afterwards.
  pub record IsReplacement (old : Holding L R) (from to : K) (result : Result K (NotReplaced K)) (new : Holding L R) : Type 0 where
    pub replaced : IfOk result (λ taken. IsPartReplaced (Contains old.pairs) from to taken (Contains new.pairs))
    pub refused : IfErr result (IsPartKept (Contains old.pairs) from to)
    pub unchanged : OnErr result (new ≡ old)
    pub count : length new.pairs ≡ length old.pairs
    pub room : new.room ≡ old.room

module _ {L R : Type 0} where
  -- The replacement of a left.
  abbrev pub IsReplacementOfLeft : (L → L → Bool) → Holding L R → L → L → Result L (NotReplaced L) → Holding L R → Type 0
  IsReplacementOfLeft same_left old from to result new = IsReplacement (λ p. p.0) (λ l r. (l, r)) same_left old from to result new

  -- The replacement of a right.
  abbrev pub IsReplacementOfRight : (R → R → Bool) → Holding L R → R → R → Result R (NotReplaced R) → Holding L R → Type 0
  IsReplacementOfRight same_right old from to result new = IsReplacement (λ p. p.1) (λ r l. (l, r)) same_right old from to result new

module _ {L R : Type 0} (same_left : L → L → Bool) where
  -- S has a pair of each of the two lefts. T is S, but each of the two lefts has the right of the other.
  pub record AreSwapped (S : L × R → Type 0) (left other : L) (T : L × R → Type 0) : Type 0 where
    pub first : L × R
    pub second : L × R
    pub by_left : S first × (same_left first.0 left ≡ true)
    pub by_other : S second × (same_left second.0 other ≡ true)
    pub swapped : (q : L × R) → T q ↔ ((q ≡ (first.0, second.1)) ⊎ (q ≡ (second.0, first.1)) ⊎ (S q × (q ≢ first) × (q ≢ second)))

  -- Why the rights were not exchanged.
  abbrev pub AreNotSwapped : (L × R → Type 0) → L → L → NotSwapped → Type 0
  AreNotSwapped S left other FirstMissing = LacksLeft same_left S left
  AreNotSwapped S left other SecondMissing = HasLeft same_left S left × LacksLeft same_left S other

  -- What `swap_partners` returns, and what the bimap has afterwards.
  pub record IsSwap (old : Holding L R) (left other : L) (result : Result (Unit {0}) NotSwapped) (new : Holding L R) : Type 0 where
    pub swapped : OnOk result (AreSwapped (Contains old.pairs) left other (Contains new.pairs))
    pub refused : IfErr result (AreNotSwapped (Contains old.pairs) left other)
    pub unchanged : OnErr result (new ≡ old)
    pub equal : same_left left other ≡ true → new ≡ old
    pub count : length new.pairs ≡ length old.pairs
    pub room : new.room ≡ old.room

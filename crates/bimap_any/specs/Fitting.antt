-- Values that only the pair of a given left may have.
use Rattle.std.specs.Prelude.{◌≡◌, Bool, true}
use Rattle.bimap_base.specs.Sets.{shares}

-- Each pair in S with the left `l` has the given left.
abbrev pub FitsLeft : {L R : Type 0} → (L → L → Bool) → (L × R → Type 0) → L → L → Type 0
FitsLeft {L} {R} same_left S left l = (s : L × R) → S s → same_left l s.0 ≡ true → same_left s.0 left ≡ true

-- Each pair in S with the right `r` has the given left.
abbrev pub FitsRight : {L R : Type 0} → (L → L → Bool) → (R → R → Bool) → (L × R → Type 0) → L → R → Type 0
FitsRight {L} {R} same_left same_right S left r = (s : L × R) → S s → same_right r s.1 ≡ true → same_left s.0 left ≡ true

-- Each pair in S that shares a value with the pair `q` has the given left.
abbrev pub Fits : {L R : Type 0} → (L → L → Bool) → (R → R → Bool) → (L × R → Type 0) → L → L × R → Type 0
Fits {L} {R} same_left same_right S left q = (s : L × R) → S s → shares same_left same_right q s ≡ true → same_left s.0 left ≡ true

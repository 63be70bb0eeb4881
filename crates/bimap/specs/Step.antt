-- What one call requires and leaves.
use Rattle.std.specs.Prelude.{◌≡◌, ◌↔◌, ◌⊎◌, ◌≤◌, ◌*◌, max, Bool, Contains}
use Rattle.bimap_base.specs.Holding.{Holding, IsFull}
use Rattle.bimap.specs.declared.call.Call.{Call}
use Rattle.bimap.specs.declared.call.Call.TheVariants.{Retain}
use Rattle.bimap_any.specs.Growth.{Adds}
use Rattle.bimap.specs.History.{Entry, Puts, Touches}

-- If the call is a `Retain`, the test may be called on its key and each member of `S`.
abbrev pub MayRetain : {L R K : Type 0} → (K → L × R → Type 0) → (L × R → Type 0) → Call L R K → Type 0
MayRetain {L} {R} {K} IsDecided S call = (k : K) (p : L × R) → call ≡ Retain k → S p → IsDecided k p

-- `T` is what the entry leaves of `S`.
abbrev pub IsStep : {L R K : Type 0} → (L → L → Bool) → (R → R → Bool) → (K → L × R → Bool → Type 0) → (L × R → Type 0) → Entry L R K → (L × R → Type 0) → Type 0
IsStep {L} {R} same_left same_right Test S entry T =
    (p : L × R) → T p ↔ (Puts entry p ⊎ (S p × (Touches same_left same_right Test entry p → ⊥)))

-- Either the room is the same, or the entry added a pair when no place was free.
-- In that case the new room is at most four or twice the old room, whichever is larger.
abbrev pub IsRoomAfterCall : {L R K : Type 0} → (L → L → Bool) → (R → R → Bool) → Holding L R → Entry L R K → Holding L R → Type 0
IsRoomAfterCall same_left same_right old entry new =
    (new.room ≡ old.room)
    ⊎ (Adds same_left same_right Puts (Contains old.pairs) entry × IsFull old × (new.room ≤ max 4 (2 * old.room)))

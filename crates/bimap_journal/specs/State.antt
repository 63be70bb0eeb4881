-- What a contract sees of a map with a journal, and what a change of it promises.
use Rattle.std.specs.Prelude.{◌≡◌, ◌⊎◌, ◌≤◌, ◌^◌, ℕ, Bool, true, false, List, Contains}
use Rattle.serde_json.specs.Data.{Data}
use Rattle.bimap.specs.Holding.{Holding}
use Rattle.bimap_journal.specs.Calls.{Event, MayLeave, LeavesOnly, HasFailed}
use Rattle.bimap_journal.specs.Lines.{IsAtRest}
use Rattle.bimap_journal.specs.Changes.{AreKept, StandsFor}
use Rattle.bimap_journal.specs.declared.fault.NotStored.{NotStored}
use Rattle.bimap_journal.specs.declared.fault.NotStored.TheVariants.{Memory, LineBreak, Stopped, Failed}

-- The pairs and the capacity of the map, the calls that were made on the file, where its lines end, and whether a write has failed.
pub record State (L R : Type 0) : Type 0 where
  pub held : Holding L R
  pub calls : List Event
  pub end : ℕ
  pub is_stopped : Bool

module _ {L R : Type 0} (same_left : L → L → Bool) (same_right : R → R → Bool) (reads_left : Data → L → Type 0) (reads_right : Data → R → Type 0) where
  -- The lines of the file leave the pairs of the map, and all of the file is on the disk.
  pub record IsDurable (state : State L R) : Type 0 where
    pub texts : List (List ℕ)
    pub rests : IsAtRest state.calls state.end texts
    pub kept : AreKept same_left same_right reads_left reads_right texts (Contains state.held.pairs)

  -- Unless a write has failed, every change of the map is on the disk.
  abbrev pub IsKept : State L R → Type 0
  IsKept state = state.is_stopped ≡ false → IsDurable state

  -- The file stands for the pairs of the map in this state.
  abbrev pub IsFileOf : State L R → List ℕ → Type 0
  IsFileOf state = StandsFor same_left same_right reads_left reads_right (Contains state.held.pairs)

  -- A crash during the call, or after it, leaves a file that stands for the pairs from before the call, or for those after it.
  abbrev pub KeepsOneOf : State L R → State L R → Type 0
  KeepsOneOf old new = LeavesOnly old.calls new.calls (λ file. IsFileOf old file ⊎ IsFileOf new file)

  -- A crash after the call leaves a file that stands for the pairs of the map.
  abbrev pub Acknowledges : State L R → Type 0
  Acknowledges new = (file : List ℕ) → MayLeave new.calls file → IsFileOf new file

-- Why a change is not known to be in the file. `Given` is what the call hands back, and `Made` what the map returned.
-- After a failure of the disk the map has the change, and nothing more is written.
-- Otherwise nothing has changed.
abbrev pub IsNotStored : {L R G A : Type 0} → (G → Type 0) → (A → Type 0) → State L R → State L R → NotStored G A → Type 0
IsNotStored Given Made old new (Memory given) = Given given × (new ≡ old)
IsNotStored Given Made old new (LineBreak given) = Given given × (new ≡ old)
IsNotStored Given Made old new (Stopped given) = Given given × (new ≡ old) × (old.is_stopped ≡ true)
IsNotStored Given Made old new (Failed made error) = Made made × (old.is_stopped ≡ false) × (new.is_stopped ≡ true) × (HasFailed new.calls ⊎ (2 ^ 61 ≤ new.end))

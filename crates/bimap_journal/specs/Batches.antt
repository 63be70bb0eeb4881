-- What a list of calls adds to a file, as one group of lines.
use Rattle.std.specs.Prelude.{◌≡◌, ◌⊎◌, ℕ, ◌+◌, Bool, true, false, Some, List, [], ◌∷◌, ◌++◌, length, Contains, Vec}
use Rattle.std.specs.declared.alloc.Global.{Global}
use Rattle.std.specs.declared.convert.Infallible.{Infallible}
use Rattle.std.specs.List.{zip}
use Rattle.serde_json.specs.Data.{Data}
use Rattle.bimap.specs.Holding.{Holding}
use Rattle.bimap.specs.History.{IsHistory}
use Rattle.bimap.specs.declared.call.Call.{Call}
use Rattle.bimap.specs.declared.call.Call.TheVariants.{Insert, InsertNoOverwrite, InsertWith, RemoveByLeft, RemoveByRight, Clear}
use Rattle.bimap.specs.declared.call.Reply.{Reply}
use Rattle.bimap.specs.declared.call.Reply.TheVariants.{Inserted, Put, Removed, Done}
use Rattle.bimap_journal.specs.declared.change.Change.{Change}
use Rattle.bimap_journal.specs.declared.change.Change.TheVariants.{Insert as Inserts, RemoveByLeft as RemovesByLeft, RemoveByRight as RemovesByRight, Clear as Clears}
use Rattle.bimap_journal.specs.Lines.{IsGroup}
use Rattle.bimap_journal.specs.Changes.{IsLineOf, AreKept}

-- The call that got this reply changed the map.
abbrev pub has_changed : {L R : Type 0} → Reply L R → Bool
has_changed (Inserted answer) = true
has_changed Put = true
has_changed (Removed (Some pair)) = true
has_changed Done = true
has_changed reply = false

-- The bytes that a group of all these lines takes at most.
abbrev pub space : List (Vec ℕ Global) → ℕ
space [] = 1
space (line ∷ lines) = length line.items + 1 + space lines

module _ {L R : Type 0} (same_left : L → L → Bool) (same_right : R → R → Bool) where
  -- The calls led from `old` to `new` with these replies, as `run` promises. None of them is a `Retain`, so no test is asked.
  abbrev pub IsRun : Holding L R → List (Call L R Infallible) → List (Reply L R) → Holding L R → Type 0
  IsRun old calls replies new = (length replies ≡ length calls) × IsHistory same_left same_right (λ key pair kept. ⊥) old (zip calls replies) new

  module _ (reads_left : Data → L → Type 0) (reads_right : Data → R → Type 0) where
    -- The bytes are a line without its first byte, and the line says this change.
    abbrev pub IsLineFor : Change L R → List ℕ → Type 0
    IsLineFor change bytes = (text : List ℕ) × IsLineOf same_left same_right reads_left reads_right change text × (¬ Contains text 10) × (bytes ≡ text ++ 10 ∷ [])

    -- The bytes are the line that the call adds if it changes the map.
    abbrev pub IsLineOfCall : Call L R Infallible → List ℕ → Type 0
    IsLineOfCall (Insert left right) = IsLineFor (Inserts left right)
    IsLineOfCall (InsertNoOverwrite left right) = IsLineFor (Inserts left right)
    IsLineOfCall (InsertWith left right policy) = IsLineFor (Inserts left right)
    IsLineOfCall (RemoveByLeft left) = IsLineFor (RemovesByLeft left)
    IsLineOfCall (RemoveByRight right) = IsLineFor (RemovesByRight right)
    IsLineOfCall Clear = IsLineFor Clears
    IsLineOfCall call = λ bytes. Unit {0}

    -- The bytes are the group of two lines, which say these changes.
    abbrev pub IsGroupOfTwo : Change L R → Change L R → List ℕ → Type 0
    IsGroupOfTwo change other bytes = (first second : List ℕ) × IsLineOf same_left same_right reads_left reads_right change first × IsLineOf same_left same_right reads_left reads_right other second × IsGroup bytes (first ∷ second ∷ [])

    -- Behind these texts, the bytes are a group whose lines leave the pairs of S. Without bytes, the texts alone leave them.
    pub record IsRecorded (texts : List (List ℕ)) (S : L × R → Type 0) (bytes : List ℕ) : Type 0 where
      pub more : List (List ℕ)
      pub is : IsGroup bytes more ⊎ ((bytes ≡ []) × (more ≡ []))
      pub kept : AreKept same_left same_right reads_left reads_right (texts ++ more) S

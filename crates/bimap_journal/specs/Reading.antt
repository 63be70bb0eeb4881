-- What reading the lines of a file returns.
use Rattle.std.specs.Prelude.{◌≡◌, ◌≢◌, ◌⊎◌, ℕ, Bool, List, [], ◌∷◌, ◌++◌, length, Contains, Vec}
use Rattle.std.specs.declared.alloc.Global.{Global}
use Rattle.std.specs.List.{AllZip}
use Rattle.serde_json.specs.Data.{Data}
use Rattle.bimap_journal.specs.Lines.{name, header, BeginsWith, lines, opened, closed, AreUnbroken, HasLines, IsAtRest}
use Rattle.bimap_journal.specs.Calls.{Event, LeavesOnly, HasFailed}
use Rattle.bimap_journal.specs.declared.disk.Operation.TheVariants.{Found}
use Rattle.bimap_journal.specs.Changes.{IsTextOf, AreKept}
use Rattle.bimap_journal.specs.declared.change.Change.{Change}
use Rattle.bimap_journal.specs.declared.reading.Next.{Next}
use Rattle.bimap_journal.specs.declared.reading.Next.TheVariants.{Line, End, Damaged as NoLine}
use Rattle.bimap_journal.specs.declared.fault.NotOpened.{NotOpened}
use Rattle.bimap_journal.specs.declared.fault.NotOpened.TheVariants.{NotAJournal, OtherVersion, Damaged, Memory, Failed}

-- What stands at the front of some bytes: a line and bytes behind it, the byte that closes the lines, or neither.
abbrev pub IsNext : List ℕ → Next → Type 0
IsNext bytes (Line text rest) = (bytes ≡ opened ∷ text.now ++ 10 ∷ rest.now) × (¬ Contains text.now 10)
IsNext bytes End = BeginsWith (closed ∷ []) bytes
IsNext bytes NoLine = (¬ BeginsWith (closed ∷ []) bytes) × ((text rest : List ℕ) → bytes ≢ opened ∷ text ++ 10 ∷ rest)

module _ {L R : Type 0} (reads_left : Data → L → Type 0) (reads_right : Data → R → Type 0) where
  -- The line was not made. If it is damaged, it reads as no change.
  abbrev pub IsLineFault : List ℕ → ℕ → NotOpened → Type 0
  IsLineFault text at (Damaged place) = (place ≡ at) × ((change : Change L R) → IsTextOf reads_left reads_right text change → ⊥)
  IsLineFault text at Memory = Unit {0}
  IsLineFault text at fault = ⊥

  -- All lines before the byte `at` read as changes. At this byte begins neither a line that reads as a change, nor the end.
  pub record IsDamagedAt (file : List ℕ) (at : ℕ) : Type 0 where
    pub texts : List (List ℕ)
    pub changes : List (Change L R)
    pub rest : List ℕ
    pub is : file ≡ header ++ lines texts ++ rest
    pub place : at ≡ length (header ++ lines texts)
    pub unbroken : AreUnbroken texts
    pub read : AllZip (IsTextOf reads_left reads_right) texts changes
    pub no_end : ¬ BeginsWith (closed ∷ []) rest
    pub no_line : (text behind : List ℕ) (change : Change L R) → rest ≡ opened ∷ text ++ 10 ∷ behind → ¬ Contains text 10 → IsTextOf reads_left reads_right text change → ⊥

  -- Why the file was not read. It may always be that memory ran out.
  abbrev pub IsFileFault : List ℕ → NotOpened → Type 0
  IsFileFault file NotAJournal = (file ≢ []) × (¬ BeginsWith name file)
  IsFileFault file OtherVersion = BeginsWith name file × (¬ BeginsWith header file)
  IsFileFault file (Damaged at) = IsDamagedAt file at
  IsFileFault file Memory = Unit {0}
  IsFileFault file (Failed error) = ⊥

module _ {L R : Type 0} (same_left : L → L → Bool) (same_right : R → R → Bool) (reads_left : Data → L → Type 0) (reads_right : Data → R → Type 0) where
  -- The file is read up to these last bytes. The lines before them leave the pairs of S.
  pub record IsReadUpTo (file rest : List ℕ) (S : L × R → Type 0) : Type 0 where
    pub texts : List (List ℕ)
    pub is : file ≡ header ++ lines texts ++ rest
    pub unbroken : AreUnbroken texts
    pub kept : AreKept same_left same_right reads_left reads_right texts S

  -- The file is read. The byte that closes its lines is at `end`.
  pub record IsReadTo (file : List ℕ) (end : ℕ) (S : L × R → Type 0) : Type 0 where
    pub texts : List (List ℕ)
    pub has : HasLines file texts
    pub at_end : end ≡ length (header ++ lines texts)
    pub kept : AreKept same_left same_right reads_left reads_right texts S

-- The file has the lines of these texts. An empty file has none.
abbrev pub HasLinesOrNone : List (List ℕ) → List ℕ → Type 0
HasLinesOrNone texts file = HasLines file texts ⊎ ((file ≡ []) × (texts ≡ []))

-- A file was found and opened. It has the same lines as before, at any moment.
pub record IsOpened {L R : Type 0} (same_left : L → L → Bool) (same_right : R → R → Bool) (reads_left : Data → L → Type 0) (reads_right : Data → R → Type 0) (old new : List Event) (end : ℕ) (S : L × R → Type 0) : Type 0 where
  pub found : Vec ℕ Global
  pub texts : List (List ℕ)
  pub has : HasLinesOrNone texts found.items
  pub any_moment : LeavesOnly ((Found, found) ∷ old) new (HasLinesOrNone texts)
  pub rests : IsAtRest new end texts
  pub kept : AreKept same_left same_right reads_left reads_right texts S

-- A file was found, and a later call failed. The file has the same lines as before, at any moment.
pub record IsBroken (old new : List Event) : Type 0 where
  pub found : Vec ℕ Global
  pub texts : List (List ℕ)
  pub has : HasLinesOrNone texts found.items
  pub any_moment : LeavesOnly ((Found, found) ∷ old) new (HasLinesOrNone texts)
  pub failed : HasFailed new

-- No file was opened. If no call failed, a file was read and left as it was, and the fault says why.
abbrev pub IsNotOpened : {L R : Type 0} → (Data → L → Type 0) → (Data → R → Type 0) → List Event → List Event → NotOpened → Type 0
IsNotOpened reads_left reads_right old new (Failed error) = (new ≡ old) ⊎ IsBroken old new
IsNotOpened reads_left reads_right old new fault = (found : Vec ℕ Global) × (new ≡ (Found, found) ∷ old) × IsFileFault reads_left reads_right found.items fault

-- An empty file was not made a journal. Either nothing was done, or the call failed.
abbrev pub IsBeginFault : List Event → List Event → NotOpened → Type 0
IsBeginFault old new Memory = new ≡ old
IsBeginFault old new (Failed error) = HasFailed new
IsBeginFault old new fault = ⊥

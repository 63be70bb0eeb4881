-- What stands in the file of a journal: a first line, a line for each change, and a byte that closes them.
use Rattle.std.specs.Prelude.{◌≡◌, ◌≢◌, ℕ, List, [], ◌∷◌, ◌++◌, length, drop, codes, All, Contains}
use Rattle.bimap_journal.specs.Calls.{Event, seen, Only}

-- How the first line begins. It names the format.
abbrev pub name : List ℕ
name = codes "jetukoma journal "

-- The first line. It names the format and its version.
abbrev pub header : List ℕ
header = codes "jetukoma journal 1" ++ 10 ∷ []

-- The bytes begin with these.
abbrev pub BeginsWith : List ℕ → List ℕ → Type 0
BeginsWith front bytes = (rest : List ℕ) × (bytes ≡ front ++ rest)

-- The first byte of each line, a plus.
abbrev pub opened : ℕ
opened = 43

-- The byte behind the last line, a minus. What stands behind it counts for nothing.
abbrev pub closed : ℕ
closed = 45

-- The lines of these texts.
abbrev pub lines : List (List ℕ) → List ℕ
lines [] = []
lines (text ∷ texts) = opened ∷ text ++ 10 ∷ lines texts

-- No text has a line break.
abbrev pub AreUnbroken : List (List ℕ) → Type 0
AreUnbroken texts = All (λ text. ¬ Contains text 10) texts

-- The file has the lines of these texts.
pub record HasLines (file : List ℕ) (texts : List (List ℕ)) : Type 0 where
  pub rest : List ℕ
  pub is : file ≡ header ++ lines texts ++ closed ∷ rest
  pub unbroken : AreUnbroken texts

-- After these calls the file has the lines of these texts, and all of it is on the disk. The byte that closes them is at `end`.
pub record IsAtRest (calls : List Event) (end : ℕ) (texts : List (List ℕ)) : Type 0 where
  pub has : HasLines (seen calls) texts
  pub at_end : end ≡ length (header ++ lines texts)
  pub durable : Only calls (seen calls)

-- The bytes are the lines of these texts without the first byte, and a byte that closes them.
pub record IsGroup (bytes : List ℕ) (texts : List (List ℕ)) : Type 0 where
  pub is : bytes ≡ drop 1 (lines texts) ++ closed ∷ []
  pub some : texts ≢ []
  pub unbroken : AreUnbroken texts

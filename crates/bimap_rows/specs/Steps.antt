-- What the program does with one line. No public clause cites this module.
use Rattle.std.specs.Prelude.{◌≡◌, ◌≢◌, ◌⊎◌, ℕ, List, [], ◌∷◌, ◌++◌, Bool, true, false, Option, Some}
use Rattle.std.specs.Io.KnownBytes.{Appends}
use Rattle.bimap_rows.specs.Lines.{Request, SaysCall, NoFeed, IsBad, text_of, reply_line}
use Rattle.bimap_rows.specs.Serving.{Answered, LeadsTo}
use Rattle.bimap_rows.specs.declared.line.Line.{Line}
use Rattle.bimap_rows.specs.declared.line.Line.TheVariants.{Empty, Call, Bad}
use Rattle.bimap_rows.specs.declared.serve.Ending.{Ending}
use Rattle.bimap_rows.specs.declared.serve.Ending.TheVariants.{OutputFailed, BadLine, NoMemory}

-- The line that the bytes begin with, whether a line feed ends it, and the bytes that are left then.
abbrev pub IsNextLine : List ℕ → List ℕ → Bool → Option (List ℕ) → Type 0
IsNextLine bytes line true left = (rest : List ℕ) × (bytes ≡ line ++ 10 ∷ rest) × NoFeed line × (left ≡ Some rest)
IsNextLine bytes line false left = (bytes ≡ line) × NoFeed line × (left ≡ Some [])

-- The text was read as this.
abbrev pub IsRead : List ℕ → Line → Type 0
IsRead text Empty = text ≡ []
IsRead text (Call call) = SaysCall text call
IsRead text Bad = (text ≢ []) × ((call : Request) → SaysCall text call → ⊥)

-- The program accepted a line. Either the line is empty and nothing happened, or its call was answered.
abbrev pub TakesLine : List ℕ → List (ℕ × ℕ) → List (ℕ × ℕ) → Option (List ℕ) → Option (List ℕ) → Type 0
TakesLine line old new before after =
    ((text_of line ≡ []) × (new ≡ old) × Appends before after [])
    ⊎ ((e : Answered) × SaysCall (text_of line) e.0 × LeadsTo old (e ∷ []) new × Appends before after (reply_line e.1))

-- The program did not accept the line of this number.
abbrev pub StopsAtLine : List ℕ → ℕ → Ending → Option (List ℕ) → Option (List ℕ) → Type 0
StopsAtLine line number OutputFailed before after = Unit {0}
StopsAtLine line number (BadLine n) before after = (n ≡ number) × IsBad line × Appends before after []
StopsAtLine line number NoMemory before after = Appends before after []
StopsAtLine line number ending before after = ⊥

-- The flush failed, or the ending stays as it was. In the second case nothing more was written, and no byte is in the
-- buffer.
abbrev pub IsFlushed : Ending → Ending → Option (List ℕ) → Option (List ℕ) → List ℕ → Type 0
IsFlushed ending result before after buffer = (result ≡ OutputFailed) ⊎ ((result ≡ ending) × Appends before after [] × (buffer ≡ []))

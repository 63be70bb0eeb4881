-- What the program does: the history of calls that its lines make, what it writes, and its five endings.
use Rattle.std.specs.Prelude.{◌≡◌, ◌↔◌, ℕ, ◌<◌, List, [], ◌∷◌, ◌++◌, length, map, flat_map, Bool, Option, Some, IfSome, Contains, codes, decimal, nat_eq}
use Rattle.std.specs.List.{AllPairs}
use Rattle.std.specs.Char.{encode_utf8}
use Rattle.std.specs.Io.KnownBytes.{Appends}
use Rattle.bimap.specs.History.{Entry, IsNoRoom, IsLegal, IsSurvivor}
use Rattle.bimap_rows.specs.Lines.{Request, SaysAtFirst, SaysInAll, SaysBefore, reply_line}
use Rattle.bimap_rows.specs.declared.serve.Ending.{Ending}
use Rattle.bimap_rows.specs.declared.serve.Ending.TheVariants.{Clean, InputFailed, OutputFailed, BadLine, NoMemory}

-- A call with its reply.
abbrev pub Answered : Type 0
Answered = Entry ℕ ℕ (Unit {0})

-- No line of the program tests pairs.
abbrev pub NoTest : Unit {0} → ℕ × ℕ → Bool → Type 0
NoTest key pair answer = ⊥

-- The history leads from the old pairs to the new ones. Its replies are right, and none of them says "out of memory".
-- The new pairs are those that survive the history.
pub record LeadsTo (old : List (ℕ × ℕ)) (history : List Answered) (new : List (ℕ × ℕ)) : Type 0 where
  pub legal : IsLegal nat_eq nat_eq NoTest (Contains old) history
  pub survivors : (p : ℕ × ℕ) → Contains new p ↔ IsSurvivor nat_eq nat_eq NoTest (Contains old) history p
  pub has_room : (e : Answered) → Contains history e → IsNoRoom e → ⊥

-- The calls of a history.
abbrev pub calls : List Answered → List Request
calls history = map (λ e. e.0) history

-- The lines of the replies of a history.
abbrev pub told : List Answered → List ℕ
told history = flat_map (λ e. reply_line e.1) history

-- The line of a pair at the end.
abbrev pub pair_line : ℕ × ℕ → List ℕ
pair_line p = encode_utf8 p.0 ++ (codes " <> " ++ decimal p.1 ++ 10 ∷ [])

-- The lines at the end: the number of pairs, and a line for each.
abbrev pub tail : List (ℕ × ℕ) → List ℕ
tail pairs = codes "held " ++ decimal (length pairs) ++ 10 ∷ flat_map pair_line pairs

-- Each left is less than the lefts after it.
abbrev pub AscendsByLeft : List (ℕ × ℕ) → Type 0
AscendsByLeft pairs = AllPairs (λ p q. p.0 < q.0) pairs

-- A history of the calls in the input leads from no pairs to these pairs. The program wrote its replies and then `end`.
-- The bytes of the reader, and those of the writer before and after, are options: nothing is said about bytes that are
-- not known.
pub record IsServed (Say : List ℕ → List Request → Type 0) (input before after : Option (List ℕ)) (pairs : List (ℕ × ℕ)) (end : List ℕ) : Type 0 where
  pub history : List Answered
  pub leads : LeadsTo [] history pairs
  pub says : IfSome input (λ bytes. Say bytes (calls history))
  pub wrote : Appends before after (told history ++ end)

-- If the bytes of the reader were known, all of them have been read.
abbrev pub IsReadOut : Option (List ℕ) → Option (List ℕ) → Type 0
IsReadOut input left = IfSome input (λ bytes. left ≡ Some [])

-- How the work ends if not all lines are served.
abbrev pub Stops : Ending → Option (List ℕ) → Option (List ℕ) → Option (List ℕ) → Type 0
Stops Clean input before after = ⊥
Stops InputFailed input before after = (pairs : List (ℕ × ℕ)) × IsServed SaysAtFirst input before after pairs []
Stops OutputFailed input before after = Unit {0}
Stops (BadLine number) input before after = (pairs : List (ℕ × ℕ)) × IsServed (SaysBefore number) input before after pairs []
Stops NoMemory input before after = (pairs : List (ℕ × ℕ)) × IsServed SaysAtFirst input before after pairs []

-- How the work ends, by the bytes of the reader before and after, and those of the writer before and after.
abbrev pub Ends : Ending → Option (List ℕ) → Option (List ℕ) → Option (List ℕ) → Option (List ℕ) → Type 0
Ends Clean input left before after =
    (pairs : List (ℕ × ℕ)) × AscendsByLeft pairs × IsServed SaysInAll input before after pairs (tail pairs) × IsReadOut input left
Ends ending input left before after = Stops ending input before after

-- The exit status for each ending.
abbrev pub status_of : Ending → ℕ
status_of Clean = 0
status_of InputFailed = 1
status_of OutputFailed = 1
status_of (BadLine number) = 2
status_of NoMemory = 3

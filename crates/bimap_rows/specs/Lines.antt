-- The lines that the program reads, the calls that they name, and the lines that it writes as replies.
use Rattle.std.specs.Prelude.{◌≡◌, ◌≢◌, ◌⊎◌, ℕ, ◌+◌, ◌<◌, ◌^◌, List, [], ◌∷◌, ◌++◌, length, codes, true, Some, None, decimal}
use Rattle.std.specs.Char.{encode_utf8, IsScalar}
use Rattle.std.specs.Str.{all_ascii_digits}
use Rattle.std.specs.Str.Parse.{digits_value}
use Rattle.std.specs.Io.BufRead.{strip_last}
use Rattle.bimap.specs.declared.call.Call as call
use Rattle.bimap.specs.declared.call.Call.TheVariants.{Insert, InsertNoOverwrite, InsertWith, RemoveByLeft, RemoveByRight, Clear}
use Rattle.bimap.specs.declared.call.Reply.{Reply}
use Rattle.bimap.specs.declared.call.Reply.TheVariants.{Inserted, Put, Occupied, LeftHeld, RightHeld, Removed, Done}
use Rattle.bimap.specs.Types.{Overwritten, Neither, Left, Right, Pair, Both, OnHeld, Overwrite, Refuse, Policy}
use Rattle.bimap_rows.specs.declared.line.Command.{Command}
use Rattle.bimap_rows.specs.declared.line.Command.TheVariants as command

-- A call that a line can name.
abbrev pub Request : Type 0
Request = call.Call ℕ ℕ (Unit {0})

-- The word is the character `c`, which is not a space.
abbrev pub IsSymbol : List ℕ → ℕ → Type 0
IsSymbol word c = (word ≡ encode_utf8 c) × IsScalar c × (c ≢ 32)

-- The word is one or more digits and spells `n`, which fits in 32 bits.
abbrev pub IsNumeral : List ℕ → ℕ → Type 0
IsNumeral word n = (all_ascii_digits word ≡ true) × (0 < length word) × (digits_value 10 word < 2 ^ 32) × (n ≡ digits_value 10 word)

-- The text is the word of `c`, a space, and the word of `n`.
abbrev pub IsPairText : List ℕ → ℕ → ℕ → Type 0
IsPairText text c n = (word : List ℕ) × (digits : List ℕ) × (text ≡ word ++ 32 ∷ digits) × IsSymbol word c × IsNumeral digits n

-- The letter that says what an insertion does with a value that is in the map already: `o` overwrites, and `r` refuses.
abbrev pub letter : OnHeld → ℕ
letter Overwrite = 111
letter Refuse = 114

-- The word of a policy, and a space.
abbrev pub policy_text : Policy → List ℕ
policy_text policy = letter policy.left ∷ letter policy.right ∷ 32 ∷ []

-- The text that the line of a command begins with.
abbrev pub command_text : Command → List ℕ
command_text command.Insert = codes "insert "
command_text command.Put = codes "put "
command_text command.InsertWith = codes "insert-with "
command_text command.DropLeft = codes "drop-left "
command_text command.DropRight = codes "drop-right "
command_text command.Clear = codes "clear"

-- The command makes this call with the rest of its line.
abbrev pub IsArguments : Command → List ℕ → Request → Type 0
IsArguments command.Insert rest (Insert c n) = IsPairText rest c n
IsArguments command.Put rest (InsertNoOverwrite c n) = IsPairText rest c n
IsArguments command.InsertWith rest (InsertWith c n policy) = (pair : List ℕ) × (rest ≡ policy_text policy ++ pair) × IsPairText pair c n
IsArguments command.DropLeft rest (RemoveByLeft c) = IsSymbol rest c
IsArguments command.DropRight rest (RemoveByRight n) = IsNumeral rest n
IsArguments command.Clear rest Clear = rest ≡ []
IsArguments command rest call = ⊥

-- The text names the call.
abbrev pub SaysCall : List ℕ → Request → Type 0
SaysCall text call = (command : Command) × (rest : List ℕ) × (text ≡ command_text command ++ rest) × IsArguments command rest call

-- The line without one carriage return at its end.
abbrev pub text_of : List ℕ → List ℕ
text_of line = strip_last 13 line

-- The line is not empty, and names no call.
abbrev pub IsBad : List ℕ → Type 0
IsBad line = (text_of line ≢ []) × ((call : Request) → SaysCall (text_of line) call → ⊥)

-- Each line is empty or names a call. In order, they name exactly these calls.
abbrev pub Says : List (List ℕ) → List Request → Type 0
Says [] calls = calls ≡ []
Says (line ∷ lines) calls =
    ((text_of line ≡ []) × Says lines calls)
    ⊎ ((call : Request) × (later : List Request) × (calls ≡ call ∷ later) × SaysCall (text_of line) call × Says lines later)

-- The bytes contain no line feed.
abbrev pub NoFeed : List ℕ → Type 0
NoFeed [] = Unit {0}
NoFeed (b ∷ bytes) = (b ≢ 10) × NoFeed bytes

-- The bytes are the lines, each with a line feed after it, and then the rest.
abbrev pub AreLinesThen : List ℕ → List (List ℕ) → List ℕ → Type 0
AreLinesThen bytes [] rest = bytes ≡ rest
AreLinesThen bytes (line ∷ lines) rest = (more : List ℕ) × (bytes ≡ line ++ 10 ∷ more) × NoFeed line × AreLinesThen more lines rest

-- The bytes begin with lines that name the calls.
pub record SaysAtFirst (bytes : List ℕ) (calls : List Request) : Type 0 where
  pub lines : List (List ℕ)
  pub rest : List ℕ
  pub are : AreLinesThen bytes lines rest
  pub say : Says lines calls

-- The bytes are lines that name the calls. The last line has no line feed.
pub record SaysInAll (bytes : List ℕ) (calls : List Request) : Type 0 where
  pub lines : List (List ℕ)
  pub last : List ℕ
  pub are : AreLinesThen bytes lines last
  pub whole : NoFeed last
  pub say : Says (lines ++ last ∷ []) calls

-- The bytes begin with lines that name the calls. The next line has this number, and it is bad.
pub record SaysBefore (number : ℕ) (bytes : List ℕ) (calls : List Request) : Type 0 where
  pub lines : List (List ℕ)
  pub rest : List ℕ
  pub are : AreLinesThen bytes lines rest
  pub say : Says lines calls
  pub place : length lines + 1 ≡ number
  pub line : List ℕ
  pub whole : NoFeed line
  pub next : (rest ≡ line) ⊎ ((more : List ℕ) × (rest ≡ line ++ 10 ∷ more))
  pub bad : IsBad line

-- The two words of a pair, with a space between them.
abbrev pub pair_words : ℕ → ℕ → List ℕ
pair_words left right = encode_utf8 left ++ 32 ∷ decimal right

-- The line that answers an insertion.
abbrev pub answer_line : Overwritten ℕ ℕ → List ℕ
answer_line Neither = codes "Neither" ++ 10 ∷ []
answer_line (Left l r) = codes "Left " ++ pair_words l r ++ 10 ∷ []
answer_line (Right l r) = codes "Right " ++ pair_words l r ++ 10 ∷ []
answer_line (Pair l r) = codes "Pair " ++ pair_words l r ++ 10 ∷ []
answer_line (Both p q) = codes "Both " ++ pair_words p.0 p.1 ++ 32 ∷ pair_words q.0 q.1 ++ 10 ∷ []

-- The line of a reply.
abbrev pub reply_line : Reply ℕ ℕ → List ℕ
reply_line (Inserted answer) = answer_line answer
reply_line Put = codes "Put" ++ 10 ∷ []
reply_line (Occupied l r) = codes "Occupied " ++ pair_words l r ++ 10 ∷ []
reply_line (LeftHeld l r) = codes "LeftHeld " ++ pair_words l r ++ 10 ∷ []
reply_line (RightHeld l r) = codes "RightHeld " ++ pair_words l r ++ 10 ∷ []
reply_line (Removed (Some p)) = codes "Removed " ++ pair_words p.0 p.1 ++ 10 ∷ []
reply_line (Removed None) = codes "None" ++ 10 ∷ []
reply_line Done = codes "Done" ++ 10 ∷ []
reply_line reply = []

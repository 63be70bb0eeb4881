-- A line that names a call is text in UTF-8.
use Rattle.std.proofs.Common.{rules, ◌≡◌, ◌&&◌, ℕ, List, [], ◌∷◌, Bool, true, refl, sym, ap, subst, append-nil, codes, ◌≢◌, ◌∙◌, ◌==◌, length, false, true≢false, Option, None, Some, MatchOption}
use Rattle.std.specs.Char.{encode_utf8, is_ascii_digit}
use Rattle.std.specs.Str.{IsUtf8, all_ascii_digits}
use Rattle.std.specs.Cmp.{first_so, second_so}
use Rattle.std.proofs.lemmas.Str.{IsUtf8-append, IsUtf8-from_ascii}
use Rattle.bimap_rows.specs.Lines.{Request, IsSymbol, IsPairText, letter, policy_text, command_text, IsArguments, SaysCall}
use Rattle.bimap_rows.specs.declared.line.Command.{Command}
use Rattle.bimap_rows.specs.declared.line.Command.TheVariants as command
use Rattle.bimap.specs.declared.call.Call.TheVariants.{Insert, InsertNoOverwrite, InsertWith, RemoveByLeft, RemoveByRight, Clear}
use Rattle.bimap.specs.Types.{OnHeld, Overwrite, Refuse, Policy}
use Rattle.bimap_rows.specs.Steps.{IsRead}
use Rattle.bimap_rows.specs.declared.line.Line.{Line}
use Rattle.bimap_rows.specs.declared.line.Line.TheVariants.{Call, Bad}

pub empty_utf8 : (text : List ℕ) → text ≡ [] → IsUtf8 text
empty_utf8 text e = subst IsUtf8 (sym e) ([], (refl, refl))

pub not_empty : (text : List ℕ) (b : Bool) → b ≡ (length text == 0) → b ≡ false → text ≢ []
not_empty [] b e f = absurd (true≢false (sym e ∙ f))
not_empty (x ∷ text) b e f = λ h. cc

symbol_utf8 : (word : List ℕ) (c : ℕ) → IsSymbol word c → IsUtf8 word
symbol_utf8 word c h = subst IsUtf8 (sym h.0) (c ∷ [], (ap (λ b. b && true) h.1, append-nil (encode_utf8 c)))

digit_utf8 : (d : ℕ) → is_ascii_digit d ≡ true → IsUtf8 (d ∷ [])
digit_utf8 d h = IsUtf8-from_ascii (d ∷ []) (search rules)

digits_utf8 : (ds : List ℕ) → all_ascii_digits ds ≡ true → IsUtf8 ds
digits_utf8 [] h = ([], (refl, refl))
digits_utf8 (d ∷ ds) h = IsUtf8-append (d ∷ []) ds (digit_utf8 d (first_so _ _ h)) (digits_utf8 ds (second_so _ _ h))

pair_utf8 : (text : List ℕ) (c n : ℕ) → IsPairText text c n → IsUtf8 text
pair_utf8 text c n h =
    subst IsUtf8 (sym h.2) (IsUtf8-append h.0 (32 ∷ h.1) (symbol_utf8 h.0 c h.3)
    (IsUtf8-append (32 ∷ []) h.1 (IsUtf8-from_ascii (32 ∷ []) (search rules)) (digits_utf8 h.1 h.4.0)))

letter_utf8 : (held : OnHeld) → IsUtf8 (letter held ∷ [])
letter_utf8 Overwrite = IsUtf8-from_ascii (111 ∷ []) (search rules)
letter_utf8 Refuse = IsUtf8-from_ascii (114 ∷ []) (search rules)

policy_utf8 : (policy : Policy) → IsUtf8 (policy_text policy)
policy_utf8 policy =
    IsUtf8-append (letter policy.left ∷ []) (letter policy.right ∷ 32 ∷ []) (letter_utf8 policy.left)
    (IsUtf8-append (letter policy.right ∷ []) (32 ∷ []) (letter_utf8 policy.right) (IsUtf8-from_ascii (32 ∷ []) (search rules)))

command_utf8 : (c : Command) → IsUtf8 (command_text c)
command_utf8 command.Insert = IsUtf8-from_ascii (command_text command.Insert) (search rules)
command_utf8 command.Put = IsUtf8-from_ascii (command_text command.Put) (search rules)
command_utf8 command.InsertWith =
    IsUtf8-append (codes "insert") (codes "-with ") (IsUtf8-from_ascii (codes "insert") (search rules)) (IsUtf8-from_ascii (codes "-with ") (search rules))
command_utf8 command.DropLeft = IsUtf8-append (codes "drop-") (codes "left ") (IsUtf8-from_ascii (codes "drop-") (search rules)) (IsUtf8-from_ascii (codes "left ") (search rules))
command_utf8 command.DropRight = IsUtf8-append (codes "drop-") (codes "right ") (IsUtf8-from_ascii (codes "drop-") (search rules)) (IsUtf8-from_ascii (codes "right ") (search rules))
command_utf8 command.Clear = IsUtf8-from_ascii (command_text command.Clear) (search rules)

arguments_utf8 : (c : Command) (rest : List ℕ) (call : Request) → IsArguments c rest call → IsUtf8 rest
arguments_utf8 command.Insert rest (Insert l r) h = pair_utf8 rest l r h
arguments_utf8 command.Put rest (InsertNoOverwrite l r) h = pair_utf8 rest l r h
arguments_utf8 command.InsertWith rest (InsertWith l r policy) h = subst IsUtf8 (sym h.1) (IsUtf8-append (policy_text policy) h.0 (policy_utf8 policy) (pair_utf8 h.0 l r h.2))
arguments_utf8 command.DropLeft rest (RemoveByLeft l) h = symbol_utf8 rest l h
arguments_utf8 command.DropRight rest (RemoveByRight r) h = digits_utf8 rest h.0
arguments_utf8 command.Clear rest Clear h = empty_utf8 rest h
arguments_utf8 c rest call h = absurd h

pub says_utf8 : (line : List ℕ) (call : Request) → SaysCall line call → IsUtf8 line
says_utf8 line call h = subst IsUtf8 (sym h.2) (IsUtf8-append (command_text h.0) h.1 (command_utf8 h.0) (arguments_utf8 h.0 h.1 call h.3))

-- The call of a text, or none, decides what the text is read as.
pub read_call : (text : List ℕ) (o : Option Request) (line : Line) → text ≢ [] → MatchOption o ((call : Request) → SaysCall text call → ⊥) (SaysCall text) → MatchOption o (line ≡ Bad) (λ call. line ≡ Call call) → IsRead text line
read_call text None line some none e = rw e (some, none)
read_call text (Some call) line some says e = rw e says

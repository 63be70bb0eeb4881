-- The words of a line.
use Rattle.std.proofs.Common.{◌≡◌, ◌≢◌, ℕ, ◌<◌, List, [], ◌∷◌, ◌++◌, Option, None, Some, MatchOption, length, drop, get_or, refl, sym, ap, subst, ◌∙◌, arith, append-nil}
use Rattle.std.specs.Char.{encode_utf8}
use denote.Ref.{Bor}
use Rattle.std.proofs.lemmas.Str.Pattern.{NoCharPasses-char, IsSplitOnceResult, split_after}
use borrow.Author.Tests.{ne_eqb}
use Rattle.bimap_rows.specs.Lines.{Request, IsSymbol, IsNumeral, IsPairText, policy_text, IsArguments}
use Rattle.bimap_rows.specs.declared.line.Command.TheVariants as command
use Rattle.bimap.specs.declared.call.Call.TheVariants.{Insert, InsertNoOverwrite, InsertWith}
use Rattle.bimap.specs.Types.{Policy}

-- No byte of a character is a space, unless the character is a space.
no_space : (c : ℕ) → c ≢ 32 → (i : ℕ) → i < length (encode_utf8 c) → get_or (encode_utf8 c) i 0 ≢ 32
no_space c n i l = NoCharPasses-char 32 (encode_utf8 c) i (c ∷ [], append-nil (encode_utf8 c), (ne_eqb c 32 n, tt)) (omega arith) l

symbol_no_space : (word : List ℕ) (c : ℕ) → IsSymbol word c → (i : ℕ) → i < length word → get_or word i 0 ≢ 32
symbol_no_space word c h = subst (λ w. (i : ℕ) → i < length w → get_or w i 0 ≢ 32) (sym h.0) (no_space c h.2)

space_text : encode_utf8 32 ≡ 32 ∷ []
unfolding encode_utf8
space_text = refl

-- A space is not a symbol.
pub space_no_symbol : (word : List ℕ) (s c : ℕ) → word ≡ encode_utf8 s → s ≡ 32 → IsSymbol word c → ⊥
space_no_symbol word s c e is h =
    let t : word ≡ 32 ∷ [] = e ∙ ap encode_utf8 is ∙ space_text in
    symbol_no_space word c h 0 (subst (λ w. 0 < length w) (sym t) (omega arith)) (ap (λ w. get_or w 0 0) t)

-- `split_once` separates the words of a pair.
pub words_of : (text : List ℕ) (c n : ℕ) (r : Option (Bor (List ℕ) × Bor (List ℕ))) → IsSplitOnceResult 32 text r → IsPairText text c n → MatchOption r ⊥ (λ x. IsSymbol x.0.now c × IsNumeral x.1.now n)
words_of text c n None f h = split_after 32 text h.0 h.1 None f (omega arith) h.2 (symbol_no_space h.0 c h.3)
words_of text c n (Some x) f h =
    let cut = split_after 32 text h.0 h.1 (Some x) f (omega arith) h.2 (symbol_no_space h.0 c h.3) in
    (subst (λ w. IsSymbol w c) (sym cut.0) h.3, subst (λ w. IsNumeral w n) (sym cut.1) h.4)

-- Without a pair there is no insertion.
pub no_insert : (rest : List ℕ) → ((c n : ℕ) → IsPairText rest c n → ⊥) → (call : Request) → IsArguments command.Insert rest call → ⊥
no_insert rest f (Insert c n) h = f c n h
no_insert rest f call h = h

pub no_put : (rest : List ℕ) → ((c n : ℕ) → IsPairText rest c n → ⊥) → (call : Request) → IsArguments command.Put rest call → ⊥
no_put rest f (InsertNoOverwrite c n) h = f c n h
no_put rest f call h = h

pub no_insert_with : (rest pair : List ℕ) (policy : Policy) → rest ≡ policy_text policy ++ pair → ((c n : ℕ) → IsPairText pair c n → ⊥) → (call : Request) → IsArguments command.InsertWith rest call → ⊥
no_insert_with rest pair policy e f (InsertWith c n other) h = f c n (subst (λ x. IsPairText x c n) (ap (drop 3) (sym h.1 ∙ e)) h.2)
no_insert_with rest pair policy e f call h = h

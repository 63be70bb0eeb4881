-- The text of a JSON document.
use Rattle.std.proofs.Common.{◌⊎◌, inl, inr, ◌<◌, ℕ, List, [], ◌∷◌, length, arith}
use Rattle.std.specs.Prelude.{IsTrue}
use Rattle.json.specs.Lex.{tokens, lex, punctuate}
use Rattle.json.specs.Reads.{opens}

-- If reading a text ran out of memory, the text is not empty.
pub not_empty : (text : List ℕ) (room : ℕ) → IsTrue (opens (tokens text)) ⊎ (room < length text) → 0 < length text
unfolding lex punctuate
not_empty [] room (inl opened) = absurd (cc opened)
not_empty (c ∷ text) room (inl opened) = omega arith
not_empty text room (inr short) = omega (arith, short)

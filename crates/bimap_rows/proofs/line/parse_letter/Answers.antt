use Rattle.std.proofs.Common.{◌≢◌, ℕ, List, ◌∷◌, None, arith}
use Rattle.std.proofs.lemmas.Str.Pattern.{strip_prefix_char}
use Rattle.bimap.specs.Types.{OnHeld, Overwrite, Refuse}
use Rattle.bimap_rows.specs.Lines.{letter}
use Rattle.bimap_rows.proofs.line.parse_letter.Goals as goal

pub returns-in_err-rest : goal.returns-in_err-rest
returns-in_err-rest c = rw c.from_residual.ensures no_letter
  where
    no_letter : (held : OnHeld) (rest : List ℕ) → c.args.text.now ≢ letter held ∷ rest
    no_letter Overwrite = strip_prefix_char 111 c.args.text.now None c.in_default.ensures.cases (omega arith)
    no_letter Refuse = strip_prefix_char 114 c.args.text.now None c.in_err-rest.ensures.cases (omega arith)

use Rattle.std.proofs.Common.{◌∷◌, ◌∙◌, None, drop, sym, ap, arith}
use Rattle.std.proofs.lemmas.Str.Pattern.{strip_prefix_char}
use Rattle.bimap_rows.proofs.line.parse_policy.Goals as goal

pub returns-in_err-right : goal.returns-in_err-right
returns-in_err-right c = rw c.from_residual-in_err-right.ensures (λ policy rest e. c.in_err-right.ensures policy.right (32 ∷ rest) (ap (drop 1) (sym c.in_ok-left.ensures ∙ e)))

pub returns-in_err-rest : goal.returns-in_err-rest
returns-in_err-rest c =
    rw c.from_residual-in_err-rest.ensures
    (λ policy rest e. strip_prefix_char 32 c.in_ok-right.rest.now None c.in_err-rest.ensures.cases (omega arith) rest (ap (drop 1) (sym c.in_ok-right.ensures ∙ ap (drop 1) (sym c.in_ok-left.ensures ∙ e))))

use Rattle.std.proofs.Common.{None, Some}
use Rattle.bimap_rows.proofs.Words.{words_of}
use Rattle.bimap_rows.proofs.line.parse_pair.Goals as goal

pub returns-in_err-word : goal.returns-in_err-word
returns-in_err-word c = rw c.from_residual.ensures (λ l n. words_of c.args.text.now l n None c.in_err-word.ensures.cases)

pub returns-in_err-parse_symbol : goal.returns-in_err-parse_symbol
returns-in_err-parse_symbol c = rw c.from_residual-in_err-parse_symbol.ensures (λ l n h. c.in_err-parse_symbol.ensures l (words_of c.args.text.now l n (Some (c.in_ok-word.word, c.in_ok-word.digits)) c.in_ok-word.ensures.cases h).0)

pub returns-in_err-parse_number : goal.returns-in_err-parse_number
returns-in_err-parse_number c = rw c.from_residual-in_err-parse_number.ensures (λ l n h. c.in_err-parse_number.ensures n (words_of c.args.text.now l n (Some (c.in_ok-word.word, c.in_ok-word.digits)) c.in_ok-word.ensures.cases h).1)

use Rattle.bimap_rows.proofs.Texts.{empty_utf8, not_empty, says_utf8, read_call}
use Rattle.bimap_rows.proofs.line.parse_line.Goals as goal

pub returns-in_default : goal.returns-in_default
returns-in_default c =
    let no = c.in_default.ensures.cases.0 in
    (λ e. no (empty_utf8 c.args.text.now e), λ call h. no (says_utf8 c.args.text.now call h))

pub returns : goal.returns
returns c =
    let text = c.args.text.now in
    read_call text c.parse_call.result c.map_or.result (not_empty text c.is_empty.result c.is_empty.ensures c.if-is_empty.false) (rw c.in-Ok.ensures.cases.0 at c.parse_call.ensures) c.map_or.ensures

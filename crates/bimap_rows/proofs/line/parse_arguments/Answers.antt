use Rattle.bimap_rows.proofs.Words.{no_insert, no_put, no_insert_with}
use Rattle.bimap_rows.proofs.line.parse_arguments.Goals as goal

pub returns-in_err-left-in-Insert : goal.returns-in_err-left-in-Insert
returns-in_err-left-in-Insert c = rw (c.from_residual.ensures, c.in-Insert.is) (no_insert c.args.rest.now c.in_err-left-in-Insert.ensures)

pub returns-in_err-left-in-Put : goal.returns-in_err-left-in-Put
returns-in_err-left-in-Put c = rw (c.from_residual-in_err-left-in-Put.ensures, c.in-Put.is) (no_put c.args.rest.now c.in_err-left-in-Put.ensures)

pub returns-in_err-left-in-InsertWith : goal.returns-in_err-left-in-InsertWith
returns-in_err-left-in-InsertWith c =
    let w = c.in_ok-policy-in-InsertWith in
    rw (c.from_residual-in_err-left-in-InsertWith.ensures, c.in-InsertWith.is) (no_insert_with c.args.rest.now w.rest.now w.policy w.ensures c.in_err-left-in-InsertWith.ensures)

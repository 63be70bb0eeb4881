use Rattle.std.proofs.Common.{◌++◌, ◌∙◌, ap, length}
use Rattle.std.proofs.lemmas.Bool.{eqb-true, eqb-false}
use Rattle.bimap_c.specs.Bytes.{kept}
use Rattle.bimap_c.proofs.Unpacking.{was_put, was_not_put}
use Rattle.bimap_c.proofs.unpack.insert_row.Goals as goal

pub returns-in-Some-clause-inserted : goal.returns-in-Some-clause-inserted
returns-in-Some-clause-inserted g c e =
    let put = was_put g.R.PartialEq.eq (kept g.B.Bijection.holding c.args.table.now) (kept g.B.Bijection.holding c.insert_under.new.table) c.args.left.now c.in-Some.right c.insert_under.result c.insert_under.ensures.inserted (eqb-true c.insert_under.result 0 e) in
    ((put.0, c.in-Some.right), c.in-Some.ensures.1 put.0 (ap length put.1 ∙ c.requires.left), ap (λ b. b ++ g.R.RightOfRow.right_bytes c.in-Some.right) put.1 ∙ ap (λ b. c.args.left.now ++ b) c.in-Some.ensures.0, put.2)

pub returns-in-Some-clause-unchanged : goal.returns-in-Some-clause-unchanged
returns-in-Some-clause-unchanged g c e =
    was_not_put g.R.PartialEq.eq (kept g.B.Bijection.holding c.args.table.now) (kept g.B.Bijection.holding c.insert_under.new.table) c.args.left.now c.in-Some.right c.insert_under.result c.insert_under.ensures.inserted (eqb-false c.insert_under.result 0 e)

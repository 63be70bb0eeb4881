use Rattle.std.proofs.Common.{◌≤◌, ◌+◌, ◌∙◌, length, arith}
use Rattle.std.proofs.lemmas.List.{length-append}
use Rattle.bimap_c.proofs.Packing.{two_written}
use Rattle.bimap_c.proofs.fill.put_both.Goals as goal

pub returns : goal.returns
returns c =
    let size = length-append c.args.first.now c.args.second.now in
    let fits : c.args.at + length c.args.first.now + length c.args.second.now ≤ length c.args.buf.now = omega arith in
    (omega (arith, size), fits, c.put-2.ensures ∙ rw c.put.ensures (two_written c.args.buf.now c.args.first.now c.args.second.now c.args.at fits))

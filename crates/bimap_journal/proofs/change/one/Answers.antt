use Rattle.std.proofs.Common.{◌≡◌, length, arith}
use Rattle.bimap_journal.proofs.Values.{one_long}
use Rattle.bimap_journal.proofs.change.one.Goals as goal

pub returns-then-values-ne1 : goal.returns-then-values-ne1
returns-then-values-ne1 g c = λ value reads.
    let long : length c.args.values.now ≡ 1 = one_long c.args.values.now reads.0 reads.1 in
    absurd (omega arith)

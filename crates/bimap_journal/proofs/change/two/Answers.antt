use Rattle.std.proofs.Common.{◌≡◌, length, arith}
use Rattle.bimap_journal.proofs.Values.{two_long}
use Rattle.bimap_journal.proofs.change.two.Goals as goal

pub returns-then-values-ne2 : goal.returns-then-values-ne2
returns-then-values-ne2 g c = λ value reads.
    let long : length c.args.values.now ≡ 2 = two_long c.args.values.now reads.0 reads.1 reads.2 in
    absurd (omega arith)

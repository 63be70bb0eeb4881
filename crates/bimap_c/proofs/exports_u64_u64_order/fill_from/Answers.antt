use Rattle.std.proofs.Common.{rules, ◌≡◌, refl, not, nat_lt}
use Rattle.std.specs.List.{filter}
use Rattle.bimap.specs.BTree.{holding}
use Rattle.std.proofs.lemmas.Iterator.Consumers.{YieldsList-from_rest}
use Rattle.bimap_c.proofs.exports_u64_u64_order.fill_from.Goals as goal

pub returns : goal.returns
returns c =
    let rest : c.left_range.result ≡ filter (λ p. not (nat_lt p.0 c.args.from)) (holding c.args.map.now).pairs = search rules in
    (refl, c.write_row.ensures _ (YieldsList-from_rest _ rest).runs)

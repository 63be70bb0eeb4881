use Rattle.std.proofs.Common.{refl, ap, length, arith}
use Rattle.std.proofs.lemmas.Iterator.Consumers.{YieldsList-from_rest}
use Rattle.bimap.specs.BTree.{by_right}
use Rattle.bimap_c.proofs.by_right.fill_row.Goals as goal

pub returns-in-Some : goal.returns-in-Some
returns-in-Some c = (by_right c.args.map.now, c.from_rank.ensures.sorted, (refl, c.write_row.ensures _ (YieldsList-from_rest _ c.in-Some.ensures.rest).runs))

pub returns-in-None : goal.returns-in-None
returns-in-None c = (by_right c.args.map.now, c.from_rank.ensures.sorted, (refl, (omega (arith, ap length c.in-None.ensures.rest), refl)))

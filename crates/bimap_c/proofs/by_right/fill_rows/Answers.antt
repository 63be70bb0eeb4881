use Rattle.std.proofs.lemmas.Iterator.Consumers.{YieldsList-from_rest}
use Rattle.bimap.specs.BTree.{by_right}
use Rattle.bimap_c.proofs.by_right.fill_rows.Goals as goal

pub returns-in-Some-clause-packed : goal.returns-in-Some-clause-packed
returns-in-Some-clause-packed g c = (by_right c.args.map.now, c.from_rank.ensures.sorted, c.pack_rows.ensures.packed _ (YieldsList-from_rest _ c.in-Some.ensures.rest).runs)

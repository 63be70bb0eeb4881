use Rattle.std.proofs.lemmas.Iterator.Consumers.{YieldsList-from_rest}
use Rattle.bimap_c.proofs.fill.fill_by_rank.Goals as goal

pub returns-in-Some-clause-packed : goal.returns-in-Some-clause-packed
returns-in-Some-clause-packed g c = c.pack_rows.ensures.packed _ (YieldsList-from_rest _ c.in-Some.ensures).runs

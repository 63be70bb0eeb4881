use Rattle.std.proofs.Common.{refl}
use Rattle.std.proofs.lemmas.Iterator.Consumers.{YieldsList-from_rest}
use Rattle.bimap_c.proofs.exports_u64_u64_order.fill_by_rank.Goals as goal

pub returns-in-Some : goal.returns-in-Some
returns-in-Some c = (refl, c.write_row.ensures _ (YieldsList-from_rest _ c.in-Some.ensures).runs)

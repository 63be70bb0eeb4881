use Rattle.std.proofs.Common.{rules}
use Rattle.bimap_any.proofs.HoldingsAlike.{found_alike}
use Rattle.bimap_kinds.proofs.Walk.{table_alike}
use Rattle.bimap_kinds.proofs.map.BijectiveMap.get_by_right_metered.Goals as goal

pub returns-clause-answer : goal.returns-clause-answer
returns-clause-answer g c =
    found_alike _ _ (table_alike c.args.self.now.table g.met.I.Index.listed g.met.I.Index.distinct g.met.I.Index.settled) _ _ c.get_by_right.result c.get_by_right.ensures.answer

pub returns-clause-comparisons : goal.returns-clause-comparisons
returns-clause-comparisons g c = search rules

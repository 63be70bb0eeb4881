use Rattle.bimap_any.proofs.HoldingsAlike.{found_alike}
use Rattle.bimap_kinds.proofs.Walk.{table_alike}
use Rattle.bimap_kinds.proofs.map.BijectiveMap.get_by_right.Goals as goal

pub returns : goal.returns
returns g c =
    found_alike _ _ (table_alike c.args.self.now.table g.met.I.Index.listed g.met.I.Index.distinct g.met.I.Index.settled) _ _ c.get_by_right.result c.get_by_right.ensures.answer

use Rattle.std.proofs.Common.{◌∙◌, sym}
use Rattle.bimap_kinds.proofs.Walk.{table_alike}
use Rattle.bimap_kinds.proofs.map.BijectiveMap.len.Goals as goal

pub returns : goal.returns
returns g c = c.len.ensures ∙ sym (table_alike c.args.self.now.table g.met.I.Index.listed g.met.I.Index.distinct g.met.I.Index.settled).long

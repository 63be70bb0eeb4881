use Rattle.bimap_kinds.proofs.Walk.{right_walk, table_facts}
use Rattle.bimap_kinds.proofs.map.BijectiveMap.over.Goals as goal

pub invariant_of-result : goal.invariant_of-result
invariant_of-result g c = table_facts c.new.result g.met.I.Index.listed g.met.I.Index.distinct g.met.I.Index.settled g.met.I.Index.in_order g.met.L.Eq.laws g.met.R.Eq.laws _ (right_walk c.new.result g.met.J.Index.listed g.met.J.Index.distinct g.met.J.Index.settled)

use Rattle.bimap_kinds.proofs.Walk.{left_walk, right_walk, table_facts, shrink_walked}
use Rattle.bimap_kinds.proofs.map.BijectiveMap.shrink_to.Goals as goal

pub invariant_of-self : goal.invariant_of-self
invariant_of-self g c = table_facts c.shrink_to.new.self g.met.I.Index.listed g.met.I.Index.distinct g.met.I.Index.settled g.met.I.Index.in_order g.met.L.Eq.laws g.met.R.Eq.laws _ (right_walk c.shrink_to.new.self g.met.J.Index.listed g.met.J.Index.distinct g.met.J.Index.settled)

pub returns : goal.returns
unfolding Rattle.bimap_kinds.specs.HeldTable.held
returns g c =
    let table = c.args.self.now.table in
    let after = c.shrink_to.new.self in
    let walk = left_walk table g.met.I.Index.listed g.met.I.Index.distinct g.met.I.Index.settled in
    shrink_walked table.pairs _ walk after.pairs _ c.shrink_to.ensures.walk c.args.least c.shrink_to.result c.shrink_to.ensures.answer

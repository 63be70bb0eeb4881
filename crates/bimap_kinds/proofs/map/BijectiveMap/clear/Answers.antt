use Rattle.bimap_kinds.specs.HeldTable.{held}
use Rattle.bimap_kinds.proofs.Walk.{left_walk, right_walk, table_facts, none_walked}
use Rattle.bimap_kinds.proofs.map.BijectiveMap.clear.Goals as goal

pub invariant_of-self : goal.invariant_of-self
invariant_of-self g c = table_facts c.clear.new.self g.met.I.Index.listed g.met.I.Index.distinct g.met.I.Index.settled g.met.I.Index.in_order g.met.L.Eq.laws g.met.R.Eq.laws _ (right_walk c.clear.new.self g.met.J.Index.listed g.met.J.Index.distinct g.met.J.Index.settled)

pub returns-clause-pairs : goal.returns-clause-pairs
unfolding held
returns-clause-pairs g c = none_walked _ _ (left_walk c.clear.new.self g.met.I.Index.listed g.met.I.Index.distinct g.met.I.Index.settled) c.clear.ensures.pairs

pub returns-clause-room : goal.returns-clause-room
unfolding held
returns-clause-room g c = search

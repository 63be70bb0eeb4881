use Rattle.bimap_any.proofs.HoldingsAlike.{insertion_alike}
use Rattle.bimap_kinds.proofs.Walk.{table_alike, right_walk, table_facts, held_unchanged}
use Rattle.bimap_kinds.proofs.map.BijectiveMap.insert_with.Goals as goal

pub invariant_of-self : goal.invariant_of-self
invariant_of-self g c = table_facts c.insert_with.new.self g.met.I.Index.listed g.met.I.Index.distinct g.met.I.Index.settled g.met.I.Index.in_order g.met.L.Eq.laws g.met.R.Eq.laws _ (right_walk c.insert_with.new.self g.met.J.Index.listed g.met.J.Index.distinct g.met.J.Index.settled)

pub returns-clause-answer : goal.returns-clause-answer
returns-clause-answer g c =
    insertion_alike _ _ (table_alike c.args.self.now.table g.met.I.Index.listed g.met.I.Index.distinct g.met.I.Index.settled) _ _ (table_alike c.insert_with.new.self g.met.I.Index.listed g.met.I.Index.distinct g.met.I.Index.settled) g.L.PartialEq.eq g.R.PartialEq.eq (c.args.left, c.args.right) c.args.policy c.insert_with.result
    (held_unchanged c.args.self.now.table c.insert_with.new.self c.insert_with.result c.insert_with.ensures.slots c.insert_with.ensures.places) c.insert_with.ensures.answer

pub returns-clause-position : goal.returns-clause-position
unfolding Rattle.bimap_kinds.specs.HeldTable.held
returns-clause-position g c = c.insert_with.ensures.position

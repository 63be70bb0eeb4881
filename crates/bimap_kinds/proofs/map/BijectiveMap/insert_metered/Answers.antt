use Rattle.bimap_any.proofs.HoldingsAlike.{insertion_alike}
use Rattle.bimap_kinds.proofs.Walk.{table_alike, right_walk, table_facts, held_unchanged}
use Rattle.bimap_kinds.proofs.map.BijectiveMap.insert_metered.Goals as goal

pub invariant_of-self : goal.invariant_of-self
invariant_of-self g c = table_facts c.insert_with.new.self g.met.I.Index.listed g.met.I.Index.distinct g.met.I.Index.settled g.met.I.Index.in_order g.met.L.Eq.laws g.met.R.Eq.laws _ (right_walk c.insert_with.new.self g.met.J.Index.listed g.met.J.Index.distinct g.met.J.Index.settled)

pub returns-in-Ok-clause-answer : goal.returns-in-Ok-clause-answer
returns-in-Ok-clause-answer g c =
    let i = insertion_alike _ _ (table_alike c.args.self.now.table g.met.I.Index.listed g.met.I.Index.distinct g.met.I.Index.settled) _ _ (table_alike c.insert_with.new.self g.met.I.Index.listed g.met.I.Index.distinct g.met.I.Index.settled) _ _ _ _ _ tt c.in-Ok.ensures.answer in search

pub returns-in-Err-Memory-clause-answer : goal.returns-in-Err-Memory-clause-answer
returns-in-Err-Memory-clause-answer g c =
    let same = held_unchanged c.args.self.now.table c.insert_with.new.self c.insert_with.result c.insert_with.ensures.slots c.insert_with.ensures.places in
    let i = insertion_alike _ _ (table_alike c.args.self.now.table g.met.I.Index.listed g.met.I.Index.distinct g.met.I.Index.settled) _ _ (table_alike c.insert_with.new.self g.met.I.Index.listed g.met.I.Index.distinct g.met.I.Index.settled) _ _ _ _ _ (rw c.in-Err-Memory.is at same) (rw c.in-Err-Memory.field-0-is at c.in-Err-Memory.ensures.answer) in search

pub returns-in-Ok-clause-position : goal.returns-in-Ok-clause-position
unfolding Rattle.bimap_kinds.specs.HeldTable.held
returns-in-Ok-clause-position g c = c.in-Ok.ensures.position

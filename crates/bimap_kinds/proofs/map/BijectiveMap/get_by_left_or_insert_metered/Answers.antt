use Rattle.std.proofs.Common.{rules}
use Rattle.bimap_any.proofs.HoldingsAlike.{interning_alike}
use Rattle.bimap_kinds.proofs.Walk.{table_alike, right_walk, table_facts, held_same, held_unchanged}
use Rattle.bimap_kinds.proofs.map.BijectiveMap.get_by_left_or_insert_metered.Goals as goal

pub invariant_of-self : goal.invariant_of-self
invariant_of-self g c = table_facts c.get_by_left_or_insert.new.self g.met.I.Index.listed g.met.I.Index.distinct g.met.I.Index.settled g.met.I.Index.in_order g.met.L.Eq.laws g.met.R.Eq.laws _ (right_walk c.get_by_left_or_insert.new.self g.met.J.Index.listed g.met.J.Index.distinct g.met.J.Index.settled)

pub returns-clause-answer : goal.returns-clause-answer
returns-clause-answer g c =
    interning_alike _ _ (table_alike c.args.self.now.table g.met.I.Index.listed g.met.I.Index.distinct g.met.I.Index.settled) _ _ (table_alike c.get_by_left_or_insert.new.self g.met.I.Index.listed g.met.I.Index.distinct g.met.I.Index.settled) g.L.PartialEq.eq g.R.PartialEq.eq (c.args.left, c.args.right) c.get_by_left_or_insert.result
    (λ has. held_same c.args.self.now.table c.get_by_left_or_insert.new.self (c.get_by_left_or_insert.ensures.held_slots has) (c.get_by_left_or_insert.ensures.held_places has))
    (held_unchanged c.args.self.now.table c.get_by_left_or_insert.new.self c.get_by_left_or_insert.result c.get_by_left_or_insert.ensures.slots c.get_by_left_or_insert.ensures.places) c.get_by_left_or_insert.ensures.answer

pub returns-clause-comparisons : goal.returns-clause-comparisons
returns-clause-comparisons g c = search rules

pub returns-clause-position : goal.returns-clause-position
unfolding Rattle.bimap_kinds.specs.HeldTable.held
returns-clause-position g c appends lacks = c.get_by_left_or_insert.ensures.position appends (λ q there. lacks q (((table_alike c.args.self.now.table g.met.I.Index.listed g.met.I.Index.distinct g.met.I.Index.settled).members q).0 there))

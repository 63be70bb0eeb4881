use Rattle.std.proofs.Common.{rules}
use Rattle.bimap_any.proofs.HoldingsAlike.{removal_alike}
use Rattle.bimap_kinds.proofs.Walk.{table_alike, right_walk, table_facts}
use Rattle.bimap_kinds.proofs.map.BijectiveMap.remove_by_right_metered.Goals as goal

pub invariant_of-self : goal.invariant_of-self
invariant_of-self g c = table_facts c.remove_by_right.new.self g.met.I.Index.listed g.met.I.Index.distinct g.met.I.Index.settled g.met.I.Index.in_order g.met.L.Eq.laws g.met.R.Eq.laws _ (right_walk c.remove_by_right.new.self g.met.J.Index.listed g.met.J.Index.distinct g.met.J.Index.settled)

pub returns-clause-answer : goal.returns-clause-answer
returns-clause-answer g c =
    removal_alike _ _ (table_alike c.args.self.now.table g.met.I.Index.listed g.met.I.Index.distinct g.met.I.Index.settled) _ _ (table_alike c.remove_by_right.new.self g.met.I.Index.listed g.met.I.Index.distinct g.met.I.Index.settled) _ c.remove_by_right.result c.remove_by_right.ensures.answer

pub returns-clause-comparisons : goal.returns-clause-comparisons
returns-clause-comparisons g c = search rules

pub returns-clause-position : goal.returns-clause-position
unfolding Rattle.bimap_kinds.specs.HeldTable.held
returns-clause-position g c = c.remove_by_right.ensures.position

use Rattle.bimap_kinds.proofs.Walk.{left_walk, right_walk, table_facts, pairs_kept, reservation_walked}
use Rattle.bimap_kinds.proofs.map.BijectiveMap.reserve.Goals as goal

pub invariant_of-self : goal.invariant_of-self
invariant_of-self g c = table_facts c.reserve.new.self g.met.I.Index.listed g.met.I.Index.distinct g.met.I.Index.settled g.met.I.Index.in_order g.met.L.Eq.laws g.met.R.Eq.laws _ (right_walk c.reserve.new.self g.met.J.Index.listed g.met.J.Index.distinct g.met.J.Index.settled)

pub returns : goal.returns
unfolding Rattle.bimap_kinds.specs.HeldTable.held
returns g c =
    reservation_walked _ _ (left_walk c.args.self.now.table g.met.I.Index.listed g.met.I.Index.distinct g.met.I.Index.settled) _ _ (pairs_kept _ _ _ _ c.reserve.ensures.kept c.reserve.ensures.left_places) c.args.more c.reserve.result c.reserve.ensures.answer

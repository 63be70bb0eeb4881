use Rattle.std.proofs.Common.{ap, length, refl}
use Rattle.std.specs.declared.cmp.Ordering.TheVariants.{Less}
use Rattle.bimap_core.proofs.Positions.{insertion_walk}
use Rattle.bimap_kinds.proofs.Walk.{facts_walked, right_walk}
use Rattle.bimap_kinds.proofs.insertion_order.BijectiveMap+L+R+InsertionOrder+I+J.to_back_metered.Goals as goal

pub invariant_of-self : goal.invariant_of-self
unfolding Rattle.bimap_kinds.specs.HeldTable.held
invariant_of-self g c =
    let table = c.to_back.new.self in
    let walk = insertion_walk (λ p. p.0) g.L.PartialEq.eq g.I.Index.is_listing g.met.I.Index.settled table.pairs table.left.index table.left.list.places table.left_listing in
    facts_walked g.met.L.Eq.laws g.met.R.Eq.laws (λ k l. Less) table.pairs _ walk (λ i j d before inside. refl) _ (right_walk table g.met.J.Index.listed g.met.J.Index.distinct g.met.J.Index.settled) table.apart

pub returns-clause-moved : goal.returns-clause-moved
unfolding Rattle.bimap_kinds.specs.HeldTable.held
returns-clause-moved g c = c.to_back.ensures.moved

pub returns-clause-room : goal.returns-clause-room
unfolding Rattle.bimap_kinds.specs.HeldTable.held
returns-clause-room g c = ap length c.to_back.ensures.pairs

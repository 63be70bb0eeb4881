use Rattle.std.proofs.Common.{refl}
use Rattle.std.specs.declared.cmp.Ordering.TheVariants.{Less}
use Rattle.bimap_core.proofs.Positions.{insertion_walk}
use Rattle.bimap_kinds.proofs.Walk.{facts_walked, right_walk}
use Rattle.bimap_kinds.proofs.insertion_order.BijectiveMap+L+R+InsertionOrder+I+J.pop_first_metered.Goals as goal

pub invariant_of-self : goal.invariant_of-self
unfolding Rattle.bimap_kinds.specs.HeldTable.held
invariant_of-self g c =
    let table = c.take_first.new.self in
    let walk = insertion_walk (λ p. p.0) g.L.PartialEq.eq g.I.Index.is_listing g.met.I.Index.settled table.pairs table.left.index table.left.list.places table.left_listing in
    facts_walked g.met.L.Eq.laws g.met.R.Eq.laws (λ k l. Less) table.pairs _ walk (λ i j d before inside. refl) _ (right_walk table g.met.J.Index.listed g.met.J.Index.distinct g.met.J.Index.settled) table.apart

pub returns-clause-taken : goal.returns-clause-taken
unfolding Rattle.bimap_kinds.specs.HeldTable.held
returns-clause-taken g c = c.take_first.ensures.taken

use Rattle.bimap_core.proofs.Ascending.{order_walk, order_ascends}
use Rattle.bimap_kinds.proofs.Walk.{right_walk, facts_walked}
use Rattle.bimap_kinds.proofs.ends.BijectiveMap+L+R+Ordered+J.take_at_left_rank.Goals as goal

pub invariant_of-self : goal.invariant_of-self
unfolding Rattle.bimap_kinds.specs.HeldTable.held
invariant_of-self g c =
    let table = c.take_at_left_rank.new.self in
    facts_walked g.met.L.Eq.laws g.met.R.Eq.laws g.L.Ord.cmp table.pairs _ (order_walk (λ p. p.0) g.met.L.Ord.total g.met.L.Ord.matches_eq table.pairs table.left.places table.left_listing)
    (order_ascends (λ p. p.0) g.met.L.Ord.total g.met.L.Ord.matches_eq table.pairs table.left.places table.left_listing) _ (right_walk table g.met.J.Index.listed g.met.J.Index.distinct g.met.J.Index.settled) table.apart

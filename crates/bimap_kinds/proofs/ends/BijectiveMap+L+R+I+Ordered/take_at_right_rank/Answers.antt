use Rattle.std.proofs.lemmas.Option.{IfSome_then}
use Rattle.bimap_core.proofs.Ascending.{order_walk}
use Rattle.bimap_kinds.proofs.Walk.{left_walk, table_facts, sorted_walk, removing_walked}
use Rattle.bimap_kinds.proofs.ends.BijectiveMap+L+R+I+Ordered.take_at_right_rank.Goals as goal

pub invariant_of-self : goal.invariant_of-self
invariant_of-self g c =
    let table = c.take_at_right_rank.new.self in
    table_facts table g.met.I.Index.listed g.met.I.Index.distinct g.met.I.Index.settled g.met.I.Index.in_order g.met.L.Eq.laws g.met.R.Eq.laws _ (order_walk (λ p. p.1) g.met.R.Ord.total g.met.R.Ord.matches_eq table.pairs table.right.places table.right_listing)

pub returns-clause-sorted : goal.returns-clause-sorted
returns-clause-sorted g c =
    let table = c.args.self.now.table in
    sorted_walk table g.met.R.Ord.total g.met.R.Ord.matches_eq (left_walk table g.met.I.Index.listed g.met.I.Index.distinct g.met.I.Index.settled) table.right_listing

pub returns-clause-removed : goal.returns-clause-removed
unfolding Rattle.bimap_kinds.specs.HeldTable.held
returns-clause-removed g c = IfSome_then c.take_at_right_rank.result c.take_at_right_rank.ensures.taken.removed (removing_walked _ _ (left_walk c.args.self.now.table g.met.I.Index.listed g.met.I.Index.distinct g.met.I.Index.settled) _ _ (left_walk c.take_at_right_rank.new.self g.met.I.Index.listed g.met.I.Index.distinct g.met.I.Index.settled))

use Rattle.bimap_index.proofs.Ascending.{found_by_order, unlinked_key}
use Rattle.bimap_index.proofs.ordered.unlink_in_order.Goals as goal

pub returns-clause-found : goal.returns-clause-found
returns-clause-found g c = found_by_order _ _ g.met.Q.OrderQuery.follows _ g.met.Q.OrderQuery.agrees _ _ _ _ c.requires (rw c.new.ensures at c.remove_key.ensures.found) (rw c.new.ensures at c.remove_key.ensures.none)

pub returns-clause-listing : goal.returns-clause-listing
returns-clause-listing g c = unlinked_key _ _ g.met.K.Ord.total g.met.K.Ord.matches_eq _ _ _ _ c.requires c.remove_key.ensures.drops (rw c.new.ensures at c.remove_key.ensures.ascends)

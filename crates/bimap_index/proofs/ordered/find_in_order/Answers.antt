use Rattle.bimap_index.proofs.Ascending.{found_by_order}
use Rattle.bimap_index.proofs.ordered.find_in_order.Goals as goal

pub returns-clause-found : goal.returns-clause-found
returns-clause-found g c = found_by_order _ _ g.met.Q.OrderQuery.follows _ g.met.Q.OrderQuery.agrees _ _ _ _ c.requires (rw c.new.ensures at c.find.ensures.found) (rw c.new.ensures at c.find.ensures.none)

use Rattle.bimap_base.specs.QueryLaws.{follows_itself}
use Rattle.bimap_index.proofs.Ascending.{found_by_order}
use Rattle.bimap_index.proofs.ordered.OrderedIndex.finish.Goals as goal

pub returns-clause-found : goal.returns-clause-found
returns-clause-found g c = found_by_order _ _ (follows_itself g.met.K.Ord.total) _ (λ q x. g.met.K.Ord.matches_eq x q) _ _ _ _ c.requires.listing (rw c.new.ensures at c.finish.ensures.found) (rw c.new.ensures at c.finish.ensures.none)

pub returns-clause-leads : goal.returns-clause-leads
returns-clause-leads g c = rw c.new.ensures at c.finish.ensures.route

pub finish-requires-clause-under_way : goal.finish-requires-clause-under_way
finish-requires-clause-under_way g c = rw c.new.ensures c.requires.under_way

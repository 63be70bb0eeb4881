use Rattle.bimap_base.specs.QueryLaws.{follows_itself}
use Rattle.bimap_index.proofs.Ascending.{found_by_order}
use Rattle.bimap_index.proofs.ordered.OrderedIndex.find.Goals as goal

pub returns-clause-found : goal.returns-clause-found
returns-clause-found g c = found_by_order _ _ (λ q. follows_itself g.met.K.Ord.total q.now) _ (λ q x. g.met.K.Ord.matches_eq x q.now) _ _ _ _ c.requires.listing (rw c.new.ensures at c.find.ensures.found) (rw c.new.ensures at c.find.ensures.none)

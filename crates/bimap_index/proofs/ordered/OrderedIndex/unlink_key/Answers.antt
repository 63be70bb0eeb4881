use Rattle.bimap_base.specs.QueryLaws.{follows_itself}
use Rattle.bimap_index.proofs.Ascending.{found_by_order, unlinked_key}
use Rattle.bimap_index.proofs.ordered.OrderedIndex.unlink_key.Goals as goal

pub returns-clause-found : goal.returns-clause-found
returns-clause-found g c = found_by_order _ _ (λ q. follows_itself g.met.K.Ord.total q.now) _ (λ q x. g.met.K.Ord.matches_eq x q.now) _ _ _ _ c.requires.listing (rw c.new.ensures at c.remove_key.ensures.found) (rw c.new.ensures at c.remove_key.ensures.none)

pub returns-clause-listing : goal.returns-clause-listing
returns-clause-listing g c = unlinked_key _ _ g.met.K.Ord.total g.met.K.Ord.matches_eq _ _ _ _ c.requires.listing c.remove_key.ensures.drops (rw c.new.ensures at c.remove_key.ensures.ascends)

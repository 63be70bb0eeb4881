use Rattle.bimap_index.proofs.Ascending.{effort_fewer, unlinked}
use Rattle.bimap_index.proofs.ordered.OrderedIndex.unlink.Goals as goal

pub returns-clause-listing : goal.returns-clause-listing
returns-clause-listing g c f without = unlinked _ _ g.met.K.Ord.total g.met.K.Ord.matches_eq _ _ f _ _ c.requires.listing c.remove.ensures.drops (rw c.new.ensures at c.remove.ensures.ascends) without

pub returns-clause-effort : goal.returns-clause-effort
returns-clause-effort g c = effort_fewer _ _ c.remove.ensures.len

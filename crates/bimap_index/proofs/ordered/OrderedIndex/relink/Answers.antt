use Rattle.bimap_index.proofs.Ascending.{linked}
use Rattle.bimap_index.proofs.ordered.OrderedIndex.relink.Goals as goal

pub returns-clause-listing : goal.returns-clause-listing
returns-clause-listing g c = linked g.K.Ord.cmp g.K.PartialEq.eq g.met.K.Ord.total g.met.K.Ord.matches_eq c.args.self.now (g.S.Side.key_at c.args.side) c.args.place c.requires.may.0 c.requires.may.1 c.insert.new.self.places c.insert.ensures.adds (rw c.new.ensures at c.insert.ensures.ascends)

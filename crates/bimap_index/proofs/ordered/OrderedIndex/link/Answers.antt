use Rattle.bimap_index.proofs.Ascending.{linked, link_unequal, link_route}
use Rattle.bimap_index.proofs.ordered.OrderedIndex.link.Goals as goal

pub insert_at-requires-clause-unequal : goal.insert_at-requires-clause-unequal
insert_at-requires-clause-unequal g c = rw c.new.ensures (link_unequal g.K.Ord.cmp g.K.PartialEq.eq g.met.K.Ord.total g.met.K.Ord.matches_eq c.args.self.now (g.S.Side.key_at c.args.side) c.args.place c.requires.may.0 c.requires.may.1)

pub insert_at-requires-clause-route : goal.insert_at-requires-clause-route
insert_at-requires-clause-route g c = rw c.new.ensures (link_route g.K.Ord.cmp g.K.PartialEq.eq g.met.K.Ord.total g.met.K.Ord.matches_eq c.args.self.now (g.S.Side.key_at c.args.side) c.args.place c.requires.may.0 c.requires.may.1 c.args.spot.now c.requires.may.2)

pub returns-clause-listing : goal.returns-clause-listing
returns-clause-listing g c = linked g.K.Ord.cmp g.K.PartialEq.eq g.met.K.Ord.total g.met.K.Ord.matches_eq c.args.self.now (g.S.Side.key_at c.args.side) c.args.place c.requires.may.0 c.requires.may.1 c.insert_at.new.self.places c.insert_at.ensures.adds (rw c.new.ensures at c.insert_at.ensures.ascends)

pub returns-clause-comparisons : goal.returns-clause-comparisons
returns-clause-comparisons g c = search

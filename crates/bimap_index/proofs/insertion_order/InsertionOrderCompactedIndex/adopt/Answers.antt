use Rattle.bimap_index.proofs.Insertion.{as_long}
use Rattle.bimap_index.proofs.Ranked.{insertion_compacted, ranked_alike}
use Rattle.bimap_index.proofs.insertion_order.InsertionOrderCompactedIndex.adopt.Goals as goal

pub returns-clause-listing : goal.returns-clause-listing
returns-clause-listing g c = insertion_compacted g.I.Index.is_listing c.args.self.now.index c.adopt.new.self c.args.self.now.list.places c.args.compacted.list.places c.requires.from.1 (g.S.Side.key_at c.args.side) c.requires.from.0 c.requires.from.3 c.requires.from.4 c.requires.from.2.1 c.adopt.ensures.listing c.requires.from.2.3

pub returns-clause-walk : goal.returns-clause-walk
returns-clause-walk g c to keys moved is listing listing' same = ranked_alike c.args.self.now.list.places c.args.compacted.list.places is.1 keys listing.lists moved listing'.lists same

pub returns-clause-comparisons : goal.returns-clause-comparisons
returns-clause-comparisons g c = rw (as_long g.I.Index.is_listing g.I.Index.places g.met.I.Index.listed g.met.I.Index.distinct c.args.self.now.index c.args.self.now.list.places c.requires.from.1 c.requires.from.3) c.adopt.ensures.comparisons

pub returns-clause-touches : goal.returns-clause-touches
returns-clause-touches g c = rw (as_long g.I.Index.is_listing g.I.Index.places g.met.I.Index.listed g.met.I.Index.distinct c.args.self.now.index c.args.self.now.list.places c.requires.from.1 c.requires.from.3) c.adopt.ensures.touches

use Rattle.std.proofs.Common.{arith}
use Rattle.bimap_index.proofs.Insertion.{as_long}
use Rattle.bimap_index.proofs.insertion_order.InsertionOrderCompactedIndex.compacted.Goals as goal

pub compacted-requires-clause-room : goal.compacted-requires-clause-room
compacted-requires-clause-room g c = omega (arith, c.requires.room, as_long g.I.Index.is_listing g.I.Index.places g.met.I.Index.listed g.met.I.Index.distinct c.args.self.now.index c.args.self.now.list.places c.requires.listing.0 c.requires.listing.1)

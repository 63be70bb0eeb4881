use Rattle.std.proofs.Common.{ap, arith}
use Rattle.bimap_index.proofs.Insertion.{appended, as_long}
use Rattle.bimap_index.proofs.insertion_order.InsertionOrderIndex.relink.Goals as goal

pub relink-requires-clause-may : goal.relink-requires-clause-may
relink-requires-clause-may g c = let m = c.requires.may.1 in (c.requires.may.0, record { f = m.f; listing = m.listing.found; without = m.without; live = m.live; absent = m.absent }, c.requires.may.2)

pub returns-clause-listing : goal.returns-clause-listing
returns-clause-listing g c = let m = c.requires.may.1 in appended g.I.Index.is_listing m.f (g.S.Side.key_at c.args.side) c.args.place m.without c.args.self.now.index c.relink.new.self c.args.self.now.list.places c.push_back.new.self.places c.requires.may.0 m.live m.listing c.relink.ensures.listing c.push_back.ensures.places c.push_back.ensures.distinct

pub returns-clause-comparisons : goal.returns-clause-comparisons
returns-clause-comparisons g c = omega (arith, c.relink.ensures.comparisons, ap g.I.Index.effort (as_long g.I.Index.is_listing g.I.Index.places g.met.I.Index.listed g.met.I.Index.distinct c.args.self.now.index c.args.self.now.list.places c.requires.may.1.f c.requires.may.1.listing))

pub returns-clause-touches : goal.returns-clause-touches
returns-clause-touches g c = omega (arith, c.relink.ensures.touches, ap g.I.Index.effort (as_long g.I.Index.is_listing g.I.Index.places g.met.I.Index.listed g.met.I.Index.distinct c.args.self.now.index c.args.self.now.list.places c.requires.may.1.f c.requires.may.1.listing))

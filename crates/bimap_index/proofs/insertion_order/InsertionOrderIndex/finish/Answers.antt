use Rattle.std.proofs.Common.{ap, arith}
use Rattle.bimap_index.proofs.Insertion.{as_long}
use Rattle.bimap_index.proofs.insertion_order.InsertionOrderIndex.finish.Goals as goal

pub returns-clause-comparisons : goal.returns-clause-comparisons
returns-clause-comparisons g c = omega (arith, c.finish.ensures.comparisons, c.start.ensures.ahead, ap g.I.Index.effort (as_long g.I.Index.is_listing g.I.Index.places g.met.I.Index.listed g.met.I.Index.distinct c.args.self.now.index c.args.self.now.list.places (g.S.Side.key_at c.args.side) c.requires.listing))

pub returns-clause-touches : goal.returns-clause-touches
returns-clause-touches g c = omega (arith, c.finish.ensures.touches, c.start.ensures.ahead, ap g.I.Index.effort (as_long g.I.Index.is_listing g.I.Index.places g.met.I.Index.listed g.met.I.Index.distinct c.args.self.now.index c.args.self.now.list.places (g.S.Side.key_at c.args.side) c.requires.listing))

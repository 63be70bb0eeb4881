use Rattle.std.proofs.Common.{ap, arith}
use Rattle.bimap_index.proofs.Insertion.{as_long, dropped, some_with, taken_out}
use Rattle.bimap_index.proofs.insertion_order.InsertionOrder.unlink_listed.Goals as goal

pub returns-clause-listing : goal.returns-clause-listing
returns-clause-listing g c f without = dropped g.I.Index.is_listing f (g.S.Side.key_at c.args.side) c.in_ok-place.place without c.args.self.now.index c.unlink_by.new.self c.args.self.now.list.places c.remove.new.self.places c.requires (c.in_ok-place.ensures.listing f without) c.remove.ensures.drops c.remove.ensures.distinct

pub returns-clause-others : goal.returns-clause-others
returns-clause-others g c = taken_out c.args.self.now.list.places c.remove.new.self.places c.in_ok-place.place ((c.requires.lists c.in_ok-place.place).1 (some_with _ (g.S.Side.key_at c.args.side c.in_ok-place.place) c.in_ok-place.ensures.found.here)) c.remove.ensures.places

pub returns-in_err-place-clause-comparisons : goal.returns-in_err-place-clause-comparisons
returns-in_err-place-clause-comparisons g c = omega (arith, c.unlink_by.ensures.comparisons, ap g.I.Index.effort (as_long g.I.Index.is_listing g.I.Index.places g.met.I.Index.listed g.met.I.Index.distinct c.args.self.now.index c.args.self.now.list.places (g.S.Side.key_at c.args.side) c.requires))

pub returns-in_err-place-clause-touches : goal.returns-in_err-place-clause-touches
returns-in_err-place-clause-touches g c = omega (arith, c.unlink_by.ensures.touches, ap g.I.Index.effort (as_long g.I.Index.is_listing g.I.Index.places g.met.I.Index.listed g.met.I.Index.distinct c.args.self.now.index c.args.self.now.list.places (g.S.Side.key_at c.args.side) c.requires))

pub returns-clause-comparisons : goal.returns-clause-comparisons
returns-clause-comparisons g c = omega (arith, c.unlink_by.ensures.comparisons, ap g.I.Index.effort (as_long g.I.Index.is_listing g.I.Index.places g.met.I.Index.listed g.met.I.Index.distinct c.args.self.now.index c.args.self.now.list.places (g.S.Side.key_at c.args.side) c.requires))

pub returns-clause-touches : goal.returns-clause-touches
returns-clause-touches g c = omega (arith, c.unlink_by.ensures.touches, ap g.I.Index.effort (as_long g.I.Index.is_listing g.I.Index.places g.met.I.Index.listed g.met.I.Index.distinct c.args.self.now.index c.args.self.now.list.places (g.S.Side.key_at c.args.side) c.requires))

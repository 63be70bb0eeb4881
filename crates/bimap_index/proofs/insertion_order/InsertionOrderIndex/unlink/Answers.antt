use Rattle.std.proofs.Common.{ap, arith}
use Rattle.bimap_index.proofs.Insertion.{as_long, dropped, is_without, side_without, taken_out}
use Rattle.bimap_index.proofs.insertion_order.InsertionOrderIndex.unlink.Goals as goal

pub returns-clause-listing : goal.returns-clause-listing
returns-clause-listing g c f without = dropped g.I.Index.is_listing f (g.S.Side.key_at c.args.side) c.args.place without c.args.self.now.index c.unlink.new.self c.args.self.now.list.places c.remove.new.self.places c.requires.listing (c.unlink.ensures.listing f without) c.remove.ensures.drops c.remove.ensures.distinct

pub returns-clause-others : goal.returns-clause-others
returns-clause-others g c _ = taken_out c.args.self.now.list.places c.remove.new.self.places c.args.place ((c.requires.listing.lists c.args.place).1 c.requires.live) c.remove.ensures.places

pub returns-clause-effort : goal.returns-clause-effort
returns-clause-effort g c =
    let rest = side_without (g.S.Side.key_at c.args.side) c.args.place in
    let without = is_without (g.S.Side.key_at c.args.side) c.args.place in
    let listing = dropped g.I.Index.is_listing rest (g.S.Side.key_at c.args.side) c.args.place without c.args.self.now.index c.unlink.new.self c.args.self.now.list.places c.remove.new.self.places c.requires.listing (c.unlink.ensures.listing rest without) c.remove.ensures.drops c.remove.ensures.distinct in
    omega (arith, c.unlink.ensures.effort, ap g.I.Index.effort (as_long g.I.Index.is_listing g.I.Index.places g.met.I.Index.listed g.met.I.Index.distinct c.args.self.now.index c.args.self.now.list.places (g.S.Side.key_at c.args.side) c.requires.listing), ap g.I.Index.effort (as_long g.I.Index.is_listing g.I.Index.places g.met.I.Index.listed g.met.I.Index.distinct c.unlink.new.self c.remove.new.self.places rest listing))

pub returns-clause-comparisons : goal.returns-clause-comparisons
returns-clause-comparisons g c = omega (arith, c.unlink.ensures.comparisons, ap g.I.Index.effort (as_long g.I.Index.is_listing g.I.Index.places g.met.I.Index.listed g.met.I.Index.distinct c.args.self.now.index c.args.self.now.list.places (g.S.Side.key_at c.args.side) c.requires.listing))

pub returns-clause-touches : goal.returns-clause-touches
returns-clause-touches g c = omega (arith, c.unlink.ensures.touches, ap g.I.Index.effort (as_long g.I.Index.is_listing g.I.Index.places g.met.I.Index.listed g.met.I.Index.distinct c.args.self.now.index c.args.self.now.list.places (g.S.Side.key_at c.args.side) c.requires.listing))

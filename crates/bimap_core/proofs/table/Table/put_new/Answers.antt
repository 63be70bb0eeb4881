use Rattle.std.proofs.Common.{arith}
use Rattle.bimap_core.proofs.Places.{left_unequal, right_unequal}
use Rattle.bimap_core.proofs.Linking.{may_put}
use Rattle.bimap_core.proofs.Positions.{free_absent, shown_last, the_walk}
use Rattle.bimap_core.proofs.Writing.{facts_put}
use Rattle.bimap_core.proofs.table.Table.put_new.Goals as goal

pub relink-requires-clause-may : goal.relink-requires-clause-may
unfolding may_put
relink-requires-clause-may g c =
    let map = c.args.self.now in
    let slots = map.pairs in
    let place = c.put-place.result in
    let pair : g.row.L.Denot × g.row.R.Denot = (c.args.left, c.args.right) in
    let alone = c.requires.alone place c.put-place.ensures.was_free in
    rw (c.new.ensures, c.put-place.ensures.now) (c.args.left, may_put (λ p. p.0) g.L.PartialEq.eq slots place g.I.Index.is_listing map.left pair c.put-place.ensures.there (λ other q away i. left_unequal _ _ (alone other q away i)) c.put-place.ensures.was_free (g.met.I.Index.settled _ _ map.left_listing), c.spot_for-left_spot.ensures)

pub relink-requires-2-clause-may : goal.relink-requires-2-clause-may
unfolding may_put
relink-requires-2-clause-may g c =
    let map = c.args.self.now in
    let slots = map.pairs in
    let place = c.put-place.result in
    let pair : g.row.L.Denot × g.row.R.Denot = (c.args.left, c.args.right) in
    let alone = c.requires.alone place c.put-place.ensures.was_free in
    rw (c.new-2.ensures, c.put-place.ensures.now) (c.args.right, may_put (λ p. p.1) g.R.PartialEq.eq slots place g.J.Index.is_listing map.right pair c.put-place.ensures.there (λ other q away i. right_unequal _ _ (alone other q away i)) c.put-place.ensures.was_free (g.met.J.Index.settled _ _ map.right_listing), c.spot_for-right_spot.ensures)

pub invariant_of-self : goal.invariant_of-self
invariant_of-self g c =
    let map = c.args.self.now in
    let put = c.put-place.ensures in
    rw put.now
    (facts_put g.met.L.Eq.laws g.met.R.Eq.laws map.pairs c.put-place.result put.there map.apart (rw (c.new.ensures, put.now) at c.relink.ensures.listing) (rw (c.new-2.ensures, put.now) at c.relink-2.ensures.listing)
    (omega (arith, map.left_cells, c.relink.ensures.cells)) (omega (arith, map.right_cells, c.relink-2.ensures.cells)) (c.args.left, c.args.right) (c.requires.alone c.put-place.result put.was_free))

pub returns-clause-position : goal.returns-clause-position
returns-clause-position g c appends =
    let table = c.args.self.now in
    let places = g.I.Index.places table.left in
    let walk = the_walk (λ p. p.0) g.I.Index.is_listing g.I.Index.places g.met.I.Index.listed g.met.I.Index.distinct g.met.I.Index.settled table.pairs table.left table.left_listing in
    let put = c.put-place.ensures in
    rw put.now (shown_last table.pairs c.put-place.result (c.args.left, c.args.right) places _ put.there (free_absent table.pairs places walk c.put-place.result put.was_free) (c.relink.ensures.last appends))

use Rattle.bimap_core.proofs.Positions.{live_listed, renewed, shown_anew, shown_instead, the_walk}
use Rattle.bimap_core.proofs.table.Table.replace.Goals as goal

pub returns-clause-position : goal.returns-clause-position
returns-clause-position g c appends =
    let table = c.args.self.now in
    let places = g.I.Index.places table.left in
    let walk = the_walk (λ p. p.0) g.I.Index.is_listing g.I.Index.places g.met.I.Index.listed g.met.I.Index.distinct g.met.I.Index.settled table.pairs table.left table.left_listing in
    let swapped = c.swap.ensures in
    let spot = rw c.new-lefts.ensures at c.renew-left_spot.ensures in
    let left = renewed g.L.PartialEq.eq table.pairs c.args.place c.swap.result swapped.was c.args.left _ c.renew-left_spot.result c.as_ref.result c.as_ref.ensures.variant spot.is_for spot.is_new _ _ swapped.left_places in
    rw swapped.pairs (record {
      stays = λ e. shown_instead table.pairs c.args.place c.swap.result swapped.was places walk.distinct (c.args.left, c.args.right) _ (live_listed table.pairs places walk c.args.place c.swap.result swapped.was) (left.0 e);
      goes = λ e. shown_anew table.pairs c.args.place c.swap.result swapped.was places walk.distinct (c.args.left, c.args.right) _ (left.1 e appends);
    })

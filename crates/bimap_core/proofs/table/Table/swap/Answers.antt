use Rattle.std.proofs.Common.{arith}
use Rattle.bimap_core.proofs.Places.{live_within, left_unequal, right_unequal}
use Rattle.bimap_core.proofs.Writing.{facts_put, may_relist}
use Rattle.bimap_core.proofs.table.Table.swap.Goals as goal

pub relist-requires-clause-may : goal.relist-requires-clause-may
relist-requires-clause-may g c =
    rw (c.new-lefts-2.ensures, c.swap_in-old.ensures.now)
    (may_relist (λ p. p.0) g.met.L.Eq.laws g.met.I.Index.respects (λ x k s. g.I.Index.is_for x k s.now) _ _ _ _ _ (c.args.left, c.args.right) _ c.swap_in-old.ensures.was (λ other q away i. left_unequal _ _ (c.requires.alone other q away i)) c.requires.left (λ k s. c.unlist.ensures.is_for k s.now) (rw (c.new-lefts.ensures, c.is_some.ensures) at c.unlist.ensures.listing))

pub relist-requires-2-clause-may : goal.relist-requires-2-clause-may
relist-requires-2-clause-may g c =
    rw (c.new-rights-2.ensures, c.swap_in-old.ensures.now)
    (may_relist (λ p. p.1) g.met.R.Eq.laws g.met.J.Index.respects (λ x k s. g.J.Index.is_for x k s.now) _ _ _ _ _ (c.args.left, c.args.right) _ c.swap_in-old.ensures.was (λ other q away i. right_unequal _ _ (c.requires.alone other q away i)) c.requires.right (λ k s. c.unlist-2.ensures.is_for k s.now) (rw (c.new-rights.ensures, c.is_some-2.ensures) at c.unlist-2.ensures.listing))

pub invariant_of-self : goal.invariant_of-self
invariant_of-self g c =
    let map = c.args.self.now in
    rw c.swap_in-old.ensures.now
    (facts_put g.met.L.Eq.laws g.met.R.Eq.laws map.pairs c.args.place (live_within map.pairs c.args.place c.swap_in-old.result c.swap_in-old.ensures.was) map.apart
    (rw (c.new-lefts-2.ensures, c.swap_in-old.ensures.now) at c.relist.ensures.listing) (rw (c.new-rights-2.ensures, c.swap_in-old.ensures.now) at c.relist-2.ensures.listing)
    (omega (arith, map.left_cells, c.unlist.ensures.cells, c.relist.ensures.cells)) (omega (arith, map.right_cells, c.unlist-2.ensures.cells, c.relist-2.ensures.cells)) (c.args.left, c.args.right) c.requires.alone)

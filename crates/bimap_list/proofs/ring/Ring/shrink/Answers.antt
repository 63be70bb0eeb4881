use Rattle.std.proofs.Common.{◌+◌, arith, subst}
use Rattle.std.proofs.lemmas.List.{length-take, take-map}
use Rattle.bimap_list.specs.Ring.{IsRing, links_in, told}
use Rattle.bimap_list.proofs.Links.{cut, is_ring, shown}
use Rattle.bimap_list.proofs.ring.Ring.shrink.Goals as goal

pub invariant_of-self : goal.invariant_of-self
invariant_of-self g c =
    let value = g.N.CellNumber.value in
    let cells = c.self.inside.cells.items in
    let made = take-map (links_in value) (c.args.to + 1) cells in
    rw c.truncate.ensures.items record {
      ring = is_ring _ _ (subst (λ z. IsRing z c.args.self.now.places) made (cut (told value cells) c.args.self.now c.self.invariant.ring c.self.view_is c.args.to c.requires.cells c.requires.below));
      few = omega (arith, length-take (c.args.to + 1) cells, c.self.invariant.few);
    }

pub returns-clause-places : goal.returns-clause-places
returns-clause-places g c =
    let value = g.N.CellNumber.value in
    let cells = c.self.inside.cells.items in
    let made = take-map (links_in value) (c.args.to + 1) cells in
    rw c.truncate.ensures.items (shown _ _ (subst (λ z. IsRing z c.args.self.now.places) made (cut (told value cells) c.args.self.now c.self.invariant.ring c.self.view_is c.args.to c.requires.cells c.requires.below)))

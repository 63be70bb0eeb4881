use Rattle.std.proofs.Common.{◌<◌, [], arith, length, refl, length-set, subst, sym, ◌∙◌}
use Rattle.bimap_base.proofs.NodesInCells.{map-written}
use Rattle.bimap_list.specs.Ring.{IsRing, links_in, told, unlinked}
use Rattle.bimap_list.proofs.Links.{as_many, cleared, is_ring, none_shown, shown}
use Rattle.bimap_list.proofs.ring.Ring.clear.Goals as goal

pub invariant_of-self : goal.invariant_of-self
invariant_of-self g c =
    let value = g.N.CellNumber.value in
    let cells = c.self.inside.cells.items in
    let some_kept : 0 < length cells = grind arith in
    let some : 0 < length (told value cells) = omega (arith, as_many value cells, some_kept) in
    let made = map-written (links_in value) cells 0 c.unlinked_cell.result (told value cells) unlinked refl c.unlinked_cell.ensures in
    record {
      ring = is_ring _ [] (subst (λ z. IsRing z []) (sym made) (cleared (told value cells) c.args.self.now c.self.invariant.ring c.self.view_is some));
      few = omega (arith, length-set cells 0 c.unlinked_cell.result, c.self.invariant.few);
    }

pub returns-then-not-is_empty-clause-places : goal.returns-then-not-is_empty-clause-places
returns-then-not-is_empty-clause-places g c =
    let value = g.N.CellNumber.value in
    let cells = c.self.inside.cells.items in
    let some_kept : 0 < length cells = grind arith in
    let some : 0 < length (told value cells) = omega (arith, as_many value cells, some_kept) in
    let made = map-written (links_in value) cells 0 c.unlinked_cell.result (told value cells) unlinked refl c.unlinked_cell.ensures in
    shown _ [] (subst (λ z. IsRing z []) (sym made) (cleared (told value cells) c.args.self.now c.self.invariant.ring c.self.view_is some))

pub returns-else-not-is_empty-clause-places : goal.returns-else-not-is_empty-clause-places
returns-else-not-is_empty-clause-places g c =
    let value = g.N.CellNumber.value in
    let cells = c.self.inside.cells.items in
    none_shown (told value cells) c.args.self.now c.self.view_is (as_many value cells ∙ (grind arith))

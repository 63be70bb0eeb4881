use Rattle.std.proofs.Common.{◌≡◌, ◌+◌, ◌≤◌, arith, ap, length}
use Rattle.bimap_list.specs.Ring.{told}
use Rattle.bimap_list.proofs.Links.{as_many, cells_of, grown, is_ring, shown, told_more}
use Rattle.bimap_list.proofs.ring.Ring.grow.Goals as goal

pub invariant_of-self-2 : goal.invariant_of-self-2
invariant_of-self-2 g c =
    let value = g.N.CellNumber.value in
    let cells = told value c.self.inside.cells.items in
    let one_more : c.in-Some.cells ≡ c.args.to + 1 = grind arith in
    let inside : length c.try_reserve_exact.new.self.items ≤ c.in-Some.cells = omega (arith, one_more, ap length c.try_reserve_exact.ensures.items, as_many value c.self.inside.cells.items, cells_of cells c.args.self.now c.self.invariant.ring c.self.view_is, c.requires.above) in
    let made = told_more value c.self.inside.cells.items _ _ _ _ c.unlinked_cell.result c.try_reserve_exact.ensures.items c.in-Ok.ensures.items inside c.unlinked_cell.ensures in
    record { ring = is_ring _ _ (grown cells c.args.self.now c.self.invariant.ring c.self.view_is _ _ made); few = omega (arith, c.in-Ok.ensures.len, one_more, c.requires.few) }

pub returns-clause-places : goal.returns-clause-places
returns-clause-places g c =
    let value = g.N.CellNumber.value in
    let cells = told value c.self.inside.cells.items in
    let one_more : c.in-Some.cells ≡ c.args.to + 1 = grind arith in
    let inside : length c.try_reserve_exact.new.self.items ≤ c.in-Some.cells = omega (arith, one_more, ap length c.try_reserve_exact.ensures.items, as_many value c.self.inside.cells.items, cells_of cells c.args.self.now c.self.invariant.ring c.self.view_is, c.requires.above) in
    let made = told_more value c.self.inside.cells.items _ _ _ _ c.unlinked_cell.result c.try_reserve_exact.ensures.items c.in-Ok.ensures.items inside c.unlinked_cell.ensures in
    shown _ _ (grown cells c.args.self.now c.self.invariant.ring c.self.view_is _ _ made)

use Rattle.std.proofs.Common.{arith, ◌∙◌}
use Rattle.bimap_list.proofs.Links.{as_many, cells_of, is_ring, first_inside, pushed_before, shown}
use Rattle.bimap_list.proofs.ring.Ring.push_front.Goals as goal

pub join-requires-clause-to : goal.join-requires-clause-to
join-requires-clause-to g c =
    omega (arith, c.get.ensures, first_inside g.N.CellNumber.value c.self.inside.cells.items c.args.self.now c.self.invariant.ring c.self.view_is c.index.result.now _ (omega (arith, c.requires.cell)) c.index.ensures)

pub invariant_of-self : goal.invariant_of-self
invariant_of-self g c =
    record {
      ring = is_ring _ _ (pushed_before g.N.CellNumber.value c.self.inside.cells.items c.args.self.now c.self.invariant.ring c.self.view_is c.index.result.now _ (omega (arith, c.requires.cell)) c.index.ensures c.get.result c.get.ensures _ _ c.args.place c.requires.cell c.requires.absent c.join.ensures.joined c.join-2.ensures.joined (c.join-2.ensures.cells ∙ c.join.ensures.cells));
      few = omega (arith, c.join-2.ensures.cells, c.join.ensures.cells, c.self.invariant.few);
    }

pub returns : goal.returns
returns g c =
    let ring = pushed_before g.N.CellNumber.value c.self.inside.cells.items c.args.self.now c.self.invariant.ring c.self.view_is c.index.result.now _ (omega (arith, c.requires.cell)) c.index.ensures c.get.result c.get.ensures _ _ c.args.place c.requires.cell c.requires.absent c.join.ensures.joined c.join-2.ensures.joined (c.join-2.ensures.cells ∙ c.join.ensures.cells) in
    record {
      places = shown _ _ ring;
      cells = omega (arith, as_many g.N.CellNumber.value c.join-2.new.cells.items, as_many g.N.CellNumber.value c.self.inside.cells.items, c.join-2.ensures.cells, c.join.ensures.cells, cells_of _ c.args.self.now c.self.invariant.ring c.self.view_is);
      distinct = (is_ring _ _ ring).distinct;
    }

use Rattle.std.proofs.Common.{◌≡◌, ℕ, Some, arith}
use Rattle.std.specs.Prelude.{slice_get}
use Rattle.std.specs.List.{remove}
use Rattle.bimap_list.specs.Ring.{IsRing, told}
use Rattle.bimap_list.proofs.Links.{after_inside, as_many, before_inside, below_cells, cells_of, dropped, is_ring, place_in, ring_of, shown, taken_there}
use Rattle.bimap_list.proofs.ring.Ring.remove.Goals as goal

pub join-requires-clause-from : goal.join-requires-clause-from
join-requires-clause-from g c =
    let at = place_in c.args.self.now.places c.args.place c.requires in
    omega (arith, c.get.ensures, before_inside g.N.CellNumber.value c.self.inside.cells.items c.args.self.now c.self.invariant.ring c.self.view_is c.index.result.now _ at.0 c.args.place at.1 c.index.ensures)

pub join-requires-clause-to : goal.join-requires-clause-to
join-requires-clause-to g c =
    let at = place_in c.args.self.now.places c.args.place c.requires in
    omega (arith, c.get-2.ensures, after_inside g.N.CellNumber.value c.self.inside.cells.items c.args.self.now c.self.invariant.ring c.self.view_is c.index.result.now _ at.0 c.args.place at.1 c.index.ensures)

pub invariant_of-self : goal.invariant_of-self
invariant_of-self g c =
    let at = place_in c.args.self.now.places c.args.place c.requires in
    record {
      ring = is_ring _ _ (taken_there g.N.CellNumber.value c.self.inside.cells.items c.args.self.now c.self.invariant.ring c.self.view_is c.index.result.now _ at.0 c.args.place at.1 c.index.ensures _ _ c.get.ensures c.get-2.ensures _ c.join.ensures.joined c.join.ensures.cells);
      few = omega (arith, c.join.ensures.cells, c.self.invariant.few);
    }

pub returns : goal.returns
returns g c =
    let less = below_cells _ c.args.self.now c.self.invariant.ring c.self.view_is c.args.place c.requires in
    let at = place_in c.args.self.now.places c.args.place c.requires in
    let out : (k : ℕ) → slice_get c.args.self.now.places k ≡ Some c.args.place → IsRing (told g.N.CellNumber.value c.join.new.cells.items) (remove c.args.self.now.places k) = λ k is. taken_there g.N.CellNumber.value c.self.inside.cells.items c.args.self.now c.self.invariant.ring c.self.view_is c.index.result.now _ k c.args.place is c.index.ensures _ _ c.get.ensures c.get-2.ensures _ c.join.ensures.joined c.join.ensures.cells in
    record {
      places = λ k is. shown _ _ (out k is);
      drops = rw (shown _ _ (out at.0 at.1)) (dropped c.args.self.now.places at.0 c.args.place at.1 (ring_of _ c.args.self.now c.self.invariant.ring c.self.view_is).distinct);
      cells = omega (arith, as_many g.N.CellNumber.value c.join.new.cells.items, as_many g.N.CellNumber.value c.self.inside.cells.items, c.join.ensures.cells, cells_of _ c.args.self.now c.self.invariant.ring c.self.view_is);
      cell = omega (arith, less, as_many g.N.CellNumber.value c.join.new.cells.items, as_many g.N.CellNumber.value c.self.inside.cells.items, c.join.ensures.cells, cells_of _ c.args.self.now c.self.invariant.ring c.self.view_is);
      distinct = (is_ring _ _ (out at.0 at.1)).distinct;
    }

use Rattle.std.proofs.Common.{add-one, ap, sym, ◌∙◌}
use Rattle.bimap_list.specs.Ring.{links_in, place_of, told}
use Rattle.bimap_list.proofs.Links.{at_place, cell_of, read_after, ring_of}
use Rattle.bimap_list.proofs.ring.Ring.after.Goals as goal

pub returns : goal.returns
returns g c k is =
    let value = g.N.CellNumber.value in
    let cells = told value c.self.inside.cells.items in
    let links = links_in value c.index.result.now in
    let read = cell_of value c.self.inside.cells.items c.args.self.now c.self.invariant.ring c.self.view_is c.index.result.now _ k c.args.place is c.index.ensures in
    rw add-one (c.place_of.ensures ∙ ap (λ cell. place_of cell.next) (sym (at_place cells c.args.self.now c.self.invariant.ring c.self.view_is links k c.args.place is read)) ∙ read_after cells c.args.self.now.places 0 k c.args.place (ring_of cells c.args.self.now c.self.invariant.ring c.self.view_is).linked is)

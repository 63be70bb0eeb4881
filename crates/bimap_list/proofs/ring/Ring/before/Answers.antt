use Rattle.std.proofs.Common.{◌+◌, add-one, ap, sym, ◌∙◌}
use Rattle.bimap_list.specs.Ring.{links_in, place_of, told}
use Rattle.bimap_list.proofs.Links.{at_place, cell_of, none_before, read_before, ring_of}
use Rattle.bimap_list.proofs.ring.Ring.before.Goals as goal

pub returns-clause-between : goal.returns-clause-between
returns-clause-between g c k is =
    let value = g.N.CellNumber.value in
    let cells = told value c.self.inside.cells.items in
    let links = links_in value c.index.result.now in
    let read = cell_of value c.self.inside.cells.items c.args.self.now c.self.invariant.ring c.self.view_is c.index.result.now _ (k + 1) c.args.place is c.index.ensures in
    c.place_of.ensures ∙ ap (λ cell. place_of cell.previous) (sym (at_place cells c.args.self.now c.self.invariant.ring c.self.view_is links (k + 1) c.args.place is read)) ∙ read_before cells c.args.self.now.places 0 k c.args.place (ring_of cells c.args.self.now c.self.invariant.ring c.self.view_is).linked (rw add-one at is)

pub returns-clause-first : goal.returns-clause-first
returns-clause-first g c is =
    let value = g.N.CellNumber.value in
    let cells = told value c.self.inside.cells.items in
    let links = links_in value c.index.result.now in
    let read = cell_of value c.self.inside.cells.items c.args.self.now c.self.invariant.ring c.self.view_is c.index.result.now _ 0 c.args.place is c.index.ensures in
    c.place_of.ensures ∙ ap (λ cell. place_of cell.previous) (sym (at_place cells c.args.self.now c.self.invariant.ring c.self.view_is links 0 c.args.place is read)) ∙ none_before cells c.args.self.now.places c.args.place (ring_of cells c.args.self.now c.self.invariant.ring c.self.view_is).linked is

use Rattle.std.proofs.Common.{arith, ◌∙◌}
use Rattle.bimap_list.proofs.Links.{last_read}
use Rattle.bimap_list.proofs.ring.Ring.last.Goals as goal

pub returns : goal.returns
returns g c = c.place_of.ensures ∙ last_read g.N.CellNumber.value c.self.inside.cells.items c.args.self.now c.self.invariant.ring c.self.view_is c.index.result.now _ (grind arith) c.index.ensures

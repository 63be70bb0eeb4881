use Rattle.bimap_list.proofs.Links.{below_cells, fits_cells, ring_of}
use Rattle.bimap_list.proofs.ring.Ring.cells.Goals as goal

pub returns-clause-below : goal.returns-clause-below
returns-clause-below g c p has = below_cells _ c.args.self.now c.self.invariant.ring c.self.view_is p has

pub returns-clause-fits : goal.returns-clause-fits
returns-clause-fits g c = fits_cells _ c.args.self.now c.self.invariant.ring c.self.view_is

pub returns-clause-distinct : goal.returns-clause-distinct
returns-clause-distinct g c = (ring_of _ c.args.self.now c.self.invariant.ring c.self.view_is).distinct

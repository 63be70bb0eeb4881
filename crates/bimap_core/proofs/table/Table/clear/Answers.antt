use Rattle.std.proofs.Common.{subst, arith}
use Rattle.std.proofs.lemmas.Grind.{merely}
use Rattle.bimap_core.proofs.Places.{nothing_in, fits_in}
use Rattle.bimap_core.proofs.Removing.{apart_none}
use Rattle.bimap_core.proofs.Linking.{no_keys}
use Rattle.bimap_core.proofs.table.Table.clear.Goals as goal

pub invariant_of-self : goal.invariant_of-self
invariant_of-self g c =
    let map = c.args.self.now in
    let slots = c.clear-3.new.self in
    let free = c.clear-3.ensures.free in
    record {
      left_listing = merely (subst (λ f. g.I.Index.is_listing c.clear.new.self f) (no_keys (λ p. p.0) g.L.PartialEq.eq slots free) c.clear.ensures.listing);
      right_listing = merely (subst (λ f. g.J.Index.is_listing c.clear-2.new.self f) (no_keys (λ p. p.1) g.R.PartialEq.eq slots free) c.clear-2.ensures.listing);
      left_cells = omega (arith, c.clear-3.ensures.places, map.left_cells, c.clear.ensures.cells);
      right_cells = omega (arith, c.clear-3.ensures.places, map.right_cells, c.clear-2.ensures.cells);
      apart = apart_none g.L.PartialEq.eq g.R.PartialEq.eq slots free;
      fits = fits_in slots;
    }

pub returns-clause-pairs : goal.returns-clause-pairs
returns-clause-pairs g c = nothing_in c.clear-3.new.self c.clear-3.ensures.free

pub returns-clause-room : goal.returns-clause-room
returns-clause-room g c = search

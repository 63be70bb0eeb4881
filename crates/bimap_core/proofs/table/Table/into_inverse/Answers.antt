use Rattle.std.proofs.Common.{◌≤◌, map, refl, sym, subst}
use Rattle.std.specs.Option.{option_map}
use Rattle.std.proofs.lemmas.List.{length-map}
use Rattle.std.proofs.lemmas.Grind.{merely}
use Rattle.bimap_base.specs.Inverse.{inverse_pair}
use Rattle.bimap_core.proofs.Inverses.{left_of_inverse, right_of_inverse, apart_in_inverse, same_table}
use Rattle.bimap_core.proofs.Places.{fits_in}
use Rattle.bimap_core.proofs.table.Table.into_inverse.Goals as goal

pub invariant_of-result : goal.invariant_of-result
invariant_of-result g c =
    let table = c.args.self in
    let slots = table.pairs in
    let long = length-map slots (option_map inverse_pair) in
    rw c.in-Ok.ensures.ok record {
      left_listing = merely (subst (λ f. g.J.Index.is_listing table.right f) (left_of_inverse slots) (g.met.J.Index.settled _ _ table.right_listing));
      right_listing = merely (subst (λ f. g.I.Index.is_listing table.left f) (right_of_inverse slots) (g.met.I.Index.settled _ _ table.left_listing));
      left_cells = subst (λ n. n ≤ g.J.Index.cells table.right) (sym long) table.right_cells;
      right_cells = subst (λ n. n ≤ g.I.Index.cells table.left) (sym long) table.left_cells;
      apart = apart_in_inverse g.L.PartialEq.eq g.R.PartialEq.eq slots table.apart;
      fits = fits_in (map (option_map inverse_pair) slots);
    }

pub invariant_of-given : goal.invariant_of-given
invariant_of-given g c =
    let table = c.args.self in
    rw c.in-Err.ensures.err record {
      left_listing = table.left_listing;
      right_listing = table.right_listing;
      left_cells = table.left_cells;
      right_cells = table.right_cells;
      apart = table.apart;
      fits = table.fits;
    }

pub returns-in-Err-clause-err : goal.returns-in-Err-clause-err
returns-in-Err-clause-err g c = same_table _ c.args.self c.in-Err.ensures.err refl refl refl

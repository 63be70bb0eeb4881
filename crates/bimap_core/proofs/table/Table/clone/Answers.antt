use Rattle.std.proofs.Common.{arith}
use Rattle.std.proofs.lemmas.Grind.{merely}
use Rattle.std.proofs.lemmas.List.Elements.{length_all_zip}
use Rattle.bimap_any.proofs.Copying.{apart_clones}
use Rattle.bimap_base.specs.Clones.{IsPlaceClone}
use Rattle.bimap_base.specs.Places.{pairs_in}
use Rattle.bimap_base.specs.Slots.{left_at, right_at}
use Rattle.bimap_core.proofs.Cloning.{lefts_alike, rights_alike, pairs_cloned}
use Rattle.bimap_core.proofs.Places.{fits_in}
use Rattle.bimap_core.proofs.table.Table.clone.Goals as goal

pub copied-requires : goal.copied-requires
copied-requires g c =
    let map = c.args.self.now in
    rw c.new.ensures record {
      listing =
          g.met.I.Index.respects map.left (left_at map.pairs) (left_at c.in_ok-pairs.pairs)
          (lefts_alike g.L.Clone.is_clone g.R.Clone.is_clone map.pairs c.in_ok-pairs.pairs c.in_ok-pairs.ensures.cases g.L.PartialEq.eq g.R.PartialEq.eq c.requires.equal)
          (g.met.I.Index.settled map.left (left_at map.pairs) map.left_listing);
    }

pub copied-requires-2 : goal.copied-requires-2
copied-requires-2 g c =
    let map = c.args.self.now in
    rw c.new-2.ensures record {
      listing =
          g.met.J.Index.respects map.right (right_at map.pairs) (right_at c.in_ok-pairs.pairs)
          (rights_alike g.L.Clone.is_clone g.R.Clone.is_clone map.pairs c.in_ok-pairs.pairs c.in_ok-pairs.ensures.cases g.L.PartialEq.eq g.R.PartialEq.eq c.requires.equal)
          (g.met.J.Index.settled map.right (right_at map.pairs) map.right_listing);
    }

pub invariant_of-result : goal.invariant_of-result
invariant_of-result g c =
    let map = c.args.self.now in
    let copy = c.in_ok-pairs.pairs in
    let zip = c.in_ok-pairs.ensures.cases in
    let long = length_all_zip (IsPlaceClone g.L.Clone.is_clone g.R.Clone.is_clone) map.pairs copy zip in
    record {
      left_listing = merely (rw c.new.ensures at c.in_ok-left.ensures.listing);
      right_listing = merely (rw c.new-2.ensures at c.in_ok-right.ensures.listing);
      left_cells = omega (arith, long, map.left_cells, c.in_ok-left.ensures.cells);
      right_cells = omega (arith, long, map.right_cells, c.in_ok-right.ensures.cells);
      apart = apart_clones g.L.PartialEq.eq g.R.PartialEq.eq g.met.L.Eq.laws g.met.R.Eq.laws g.L.Clone.is_clone g.R.Clone.is_clone (pairs_in map.pairs) (pairs_in copy) c.requires.equal (pairs_cloned g.L.Clone.is_clone g.R.Clone.is_clone map.pairs copy zip) map.apart;
      fits = fits_in copy;
    }

use Rattle.std.proofs.Common.{sym, subst}
use Rattle.std.specs.List.{AllZip}
use Rattle.std.proofs.lemmas.List.Elements.{length_all_zip}
use Rattle.bimap_any.specs.Copies.{IsCopy}
use Rattle.bimap_any.proofs.Copying.{copy_of_clones, equal_among}
use Rattle.bimap_base.specs.Clones.{IsPairClone, IsPlaceClone}
use Rattle.bimap_base.specs.PairsAt.{pairs_at}
use Rattle.bimap_base.specs.Places.{pairs_in}
use Rattle.bimap_base.proofs.Walk.{walked}
use Rattle.bimap_core.proofs.Cloning.{pairs_at_cloned}
use Rattle.bimap_kinds.specs.HeldTable.{held, held_by_right}
use Rattle.bimap_kinds.proofs.Walk.{left_walk, right_walk, table_facts}
use Rattle.bimap_kinds.proofs.map.BijectiveMap.clone.Goals as goal

pub clone-requires : goal.clone-requires
unfolding held
clone-requires g c = record {
  equal =
      let table = c.args.self.now.table in
      let places = g.I.Index.places table.left in
      equal_among g.L.PartialEq.eq g.R.PartialEq.eq g.met.L.Eq.laws g.met.R.Eq.laws g.L.Clone.is_clone g.R.Clone.is_clone (pairs_at table.pairs places) (pairs_in table.pairs)
      (λ p. (walked table.pairs places (left_walk table g.met.I.Index.listed g.met.I.Index.distinct g.met.I.Index.settled) p).0) c.requires.equal;
}

pub invariant_of-result : goal.invariant_of-result
invariant_of-result g c = table_facts c.in_ok-table.table g.met.I.Index.listed g.met.I.Index.distinct g.met.I.Index.settled g.met.I.Index.in_order g.met.L.Eq.laws g.met.R.Eq.laws _ (right_walk c.in_ok-table.table g.met.J.Index.listed g.met.J.Index.distinct g.met.J.Index.settled)

pub returns-clause-pairs : goal.returns-clause-pairs
unfolding held
returns-clause-pairs g c =
    let old = c.args.self.now.table in
    let new = c.in_ok-table.table in
    let places = g.I.Index.places old.left in
    subst (λ ps. IsCopy g.L.Clone.is_clone g.R.Clone.is_clone g.L.PartialEq.eq g.R.PartialEq.eq (pairs_at old.pairs places) (pairs_at new.pairs ps)) (sym c.in_ok-table.ensures.left_places)
    (copy_of_clones g.L.PartialEq.eq g.R.PartialEq.eq g.met.L.Eq.laws g.met.R.Eq.laws g.L.Clone.is_clone g.R.Clone.is_clone (pairs_at old.pairs places) (pairs_at new.pairs places) c.requires.equal
    (pairs_at_cloned g.L.Clone.is_clone g.R.Clone.is_clone old.pairs new.pairs c.in_ok-table.ensures.pairs places))

pub returns-clause-position : goal.returns-clause-position
unfolding held
returns-clause-position g c =
    let old = c.args.self.now.table in
    let new = c.in_ok-table.table in
    let places = g.I.Index.places old.left in
    subst (λ ps. AllZip (IsPairClone g.L.Clone.is_clone g.R.Clone.is_clone) (pairs_at old.pairs places) (pairs_at new.pairs ps)) (sym c.in_ok-table.ensures.left_places)
    (pairs_at_cloned g.L.Clone.is_clone g.R.Clone.is_clone old.pairs new.pairs c.in_ok-table.ensures.pairs places)

pub returns-clause-right_position : goal.returns-clause-right_position
unfolding held_by_right
returns-clause-right_position g c =
    let old = c.args.self.now.table in
    let new = c.in_ok-table.table in
    let places = g.J.Index.places old.right in
    subst (λ ps. AllZip (IsPairClone g.L.Clone.is_clone g.R.Clone.is_clone) (pairs_at old.pairs places) (pairs_at new.pairs ps)) (sym c.in_ok-table.ensures.right_places)
    (pairs_at_cloned g.L.Clone.is_clone g.R.Clone.is_clone old.pairs new.pairs c.in_ok-table.ensures.pairs places)

pub returns-clause-room : goal.returns-clause-room
unfolding held
returns-clause-room g c = sym (length_all_zip (IsPlaceClone g.L.Clone.is_clone g.R.Clone.is_clone) c.args.self.now.table.pairs c.in_ok-table.table.pairs c.in_ok-table.ensures.pairs)

use Rattle.std.proofs.Common.{◌∙◌, ap}
use Rattle.bimap_core.proofs.Ascending.{order_walk}
use Rattle.bimap_kinds.specs.HeldTable.{held}
use Rattle.bimap_kinds.proofs.Walk.{all_live}
use Rattle.bimap_kinds.proofs.loops.BijectiveMapOrderedIntoIterator.into_iter.Goals as goal

pub into_iter-requires : goal.into_iter-requires
into_iter-requires g c = record {
  live =
      let table = c.into_table-pairs.result in
      all_live table.pairs table.left.places (order_walk (λ p. p.0) g.met.L.Ord.total g.met.L.Ord.matches_eq table.pairs table.left.places table.left_listing);
}

pub returns : goal.returns
unfolding held
returns g c = record { into_iter_gives = (c.into_iter.ensures.rest ∙ ap (λ t. (held t).pairs) c.into_table-pairs.ensures, c.into_iter.ensures.runs, c.into_iter.ensures.runs_back) }

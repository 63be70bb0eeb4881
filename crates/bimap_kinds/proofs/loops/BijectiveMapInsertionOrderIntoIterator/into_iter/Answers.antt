use Rattle.std.proofs.Common.{◌∙◌, ap}
use Rattle.bimap_base.specs.PairsAt.{pairs_at}
use Rattle.bimap_core.proofs.Positions.{insertion_walk}
use Rattle.bimap_kinds.specs.HeldTable.{held}
use Rattle.bimap_kinds.proofs.loops.BijectiveMapInsertionOrderIntoIterator.into_iter.Goals as goal

pub into_iter-requires : goal.into_iter-requires
into_iter-requires g c =
    let table = c.into_table-pairs.result in
    let walk = insertion_walk (λ p. p.0) g.L.PartialEq.eq g.I.Index.is_listing g.met.I.Index.settled table.pairs table.left.index table.left.list.places table.left_listing in
    rw c.into_list.ensures record { lists = walk.live; distinct = walk.distinct }

pub returns : goal.returns
unfolding held
returns g c = let table = c.into_table-pairs.result in record { into_iter_gives = (c.into_iter.ensures.rest ∙ ap (λ l. pairs_at table.pairs l.places) c.into_list.ensures ∙ ap (λ t. (held t).pairs) c.into_table-pairs.ensures, c.into_iter.ensures.runs, c.into_iter.ensures.runs_back) }

use Rattle.std.proofs.Common.{◌∙◌, ap, sym}
use Rattle.bimap_kinds.specs.HeldTable.{held}
use Rattle.bimap_kinds.proofs.Walk.{hash_walk}
use Rattle.bimap_kinds.proofs.loops.BijectiveMapHashIndexIntoIterator.into_iter.Goals as goal

pub returns : goal.returns
unfolding held
returns g c = let table = c.into_table-pairs.result in record { into_iter_gives = (c.into_iter.ensures.rest ∙ sym (hash_walk (λ p. p.0) table.pairs table.left.hashed table.left_listing) ∙ ap (λ t. (held t).pairs) c.into_table-pairs.ensures, c.into_iter.ensures.runs) }

use Rattle.std.proofs.Common.{arith}
use Rattle.bimap_index.proofs.Compaction.{length-places_from, made_fits}
use Rattle.bimap_index.proofs.hash_index.HashIndexCompactedIndex.compacted.Goals as goal

pub compacted-requires : goal.compacted-requires
compacted-requires g c = omega (arith, c.requires.room, length-places_from c.args.self.now.hashed 0)

pub returns : goal.returns
returns g c = made_fits c.compacted.result _ _ (omega (arith, c.requires.room, length-places_from c.args.self.now.hashed 0)) c.compacted.ensures

use Rattle.bimap_kinds.proofs.loops.RefBijectiveMapHashIndexIntoIterator.into_iter.Goals as goal

pub returns : goal.returns
returns g c = search

use Rattle.bimap_kinds.proofs.loops.RefBijectiveMapInsertionOrderIntoIterator.into_iter.Goals as goal

pub returns : goal.returns
returns g c = search

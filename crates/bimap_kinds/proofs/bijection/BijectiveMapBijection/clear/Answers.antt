use Rattle.bimap_kinds.proofs.bijection.BijectiveMapBijection.clear.Goals as goal

pub returns-clause-pairs : goal.returns-clause-pairs
returns-clause-pairs g c = search

use Rattle.bimap_kinds.proofs.map.BijectiveMap.shrink_to_fit.Goals as goal

pub returns : goal.returns
returns g c = search

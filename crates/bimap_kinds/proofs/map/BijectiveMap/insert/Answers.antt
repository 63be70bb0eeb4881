use Rattle.bimap_kinds.proofs.map.BijectiveMap.insert.Goals as goal

pub returns : goal.returns
returns g c = search

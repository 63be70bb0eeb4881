use Rattle.bimap_kinds.proofs.map.BijectiveMap.get_by_left_or_insert.Goals as goal

pub returns : goal.returns
returns g c = search

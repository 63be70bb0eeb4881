use Rattle.bimap_kinds.proofs.map.BijectiveMap.can_undo_insert.Goals as goal

pub returns : goal.returns
returns g c = search

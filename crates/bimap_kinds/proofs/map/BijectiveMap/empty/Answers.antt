use Rattle.bimap_kinds.proofs.map.BijectiveMap.empty.Goals as goal

pub returns-clause-room : goal.returns-clause-room
returns-clause-room g c = search

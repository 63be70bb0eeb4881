use Rattle.bimap_kinds.proofs.map.BijectiveMap.extend.Goals as goal

pub returns-clause-extended : goal.returns-clause-extended
returns-clause-extended g c = search

pub returns-clause-stopped : goal.returns-clause-stopped
returns-clause-stopped g c = search

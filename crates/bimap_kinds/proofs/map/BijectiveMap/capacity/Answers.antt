use Rattle.bimap_kinds.proofs.map.BijectiveMap.capacity.Goals as goal

pub returns : goal.returns
unfolding Rattle.bimap_kinds.specs.HeldTable.held
returns g c = search

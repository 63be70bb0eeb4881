use Rattle.bimap_kinds.proofs.bijection.BijectiveMapBijection.retain.Goals as goal

pub returns : goal.returns
returns g c = search

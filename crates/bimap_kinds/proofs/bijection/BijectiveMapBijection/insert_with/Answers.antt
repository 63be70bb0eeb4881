use Rattle.bimap_kinds.proofs.bijection.BijectiveMapBijection.insert_with.Goals as goal

pub returns : goal.returns
returns g c = search

use Rattle.bimap_kinds.proofs.bijection.BijectiveMapBijection.get_by_right.Goals as goal

pub returns : goal.returns
returns g c = search

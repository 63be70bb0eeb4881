use Rattle.bimap_kinds.proofs.bijection.BijectiveMapBijection.undo_insert.Goals as goal

pub returns : goal.returns
returns g c = search

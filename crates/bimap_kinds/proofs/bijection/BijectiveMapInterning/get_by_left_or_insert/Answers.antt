use Rattle.bimap_kinds.proofs.bijection.BijectiveMapInterning.get_by_left_or_insert.Goals as goal

pub returns : goal.returns
returns g c = search

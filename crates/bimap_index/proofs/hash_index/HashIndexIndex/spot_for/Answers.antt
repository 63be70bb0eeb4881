use Rattle.bimap_index.proofs.hash_index.HashIndexIndex.spot_for.Goals as goal

pub returns : goal.returns
returns g c = search

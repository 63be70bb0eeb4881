use Rattle.bimap_kinds.proofs.ends.BijectiveMap+L+R+Ordered+J.last_by_left.Goals as goal

pub returns : goal.returns
returns g c = search

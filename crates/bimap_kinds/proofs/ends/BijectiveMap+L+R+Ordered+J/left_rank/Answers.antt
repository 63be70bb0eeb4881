use Rattle.bimap_kinds.proofs.ends.BijectiveMap+L+R+Ordered+J.left_rank.Goals as goal

pub returns : goal.returns
returns g c = search

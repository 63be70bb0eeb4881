use Rattle.bimap_kinds.proofs.ends.BijectiveMap+L+R+Ordered+J.pop_first_by_left.Goals as goal

pub returns-clause-taken : goal.returns-clause-taken
returns-clause-taken g c = search

use Rattle.bimap_kinds.proofs.ends.BijectiveMap+L+R+I+Ordered.pop_last_by_right.Goals as goal

pub returns-clause-taken : goal.returns-clause-taken
returns-clause-taken g c = search

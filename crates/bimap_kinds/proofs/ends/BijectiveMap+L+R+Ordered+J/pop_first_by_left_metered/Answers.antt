use Rattle.bimap_kinds.proofs.ends.BijectiveMap+L+R+Ordered+J.pop_first_by_left_metered.Goals as goal

pub returns-clause-comparisons : goal.returns-clause-comparisons
returns-clause-comparisons g c = search

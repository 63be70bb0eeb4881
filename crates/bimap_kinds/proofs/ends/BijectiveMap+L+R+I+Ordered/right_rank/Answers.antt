use Rattle.bimap_kinds.proofs.ends.BijectiveMap+L+R+I+Ordered.right_rank.Goals as goal

pub returns-clause-rank : goal.returns-clause-rank
returns-clause-rank g c = search

pub returns-clause-sorted : goal.returns-clause-sorted
returns-clause-sorted g c = search

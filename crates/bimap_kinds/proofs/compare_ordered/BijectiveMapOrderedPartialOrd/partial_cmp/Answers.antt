use Rattle.bimap_kinds.proofs.compare_ordered.BijectiveMapOrderedPartialOrd.partial_cmp.Goals as goal

pub returns : goal.returns
returns g c = search

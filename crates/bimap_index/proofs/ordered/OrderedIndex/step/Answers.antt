use Rattle.bimap_index.proofs.ordered.OrderedIndex.step.Goals as goal

pub step-requires-clause-under_way : goal.step-requires-clause-under_way
step-requires-clause-under_way g c = rw c.new.ensures c.requires.under_way

pub returns-clause-under_way : goal.returns-clause-under_way
returns-clause-under_way g c = rw c.new.ensures at c.step.ensures.under_way

pub returns-clause-went : goal.returns-clause-went
returns-clause-went g c = search

use Rattle.std_collections.proofs.IterRuns.{gives_in_order, gives_in_reverse}
use Rattle.bimap_walk.proofs.by_insertion.into_iter.Goals as goal

pub returns-clause-runs : goal.returns-clause-runs
returns-clause-runs g c = gives_in_order

pub returns-clause-runs_back : goal.returns-clause-runs_back
returns-clause-runs_back g c = gives_in_reverse

use Rattle.bimap_journal.proofs.Batches.{group_of_two}
use Rattle.bimap_journal.proofs.Opened.{ok_then}
use Rattle.bimap_journal.proofs.group.right_replacement.Goals as goal

pub returns : goal.returns
returns g c = ok_then c.joined.result (λ group e. group_of_two g.L.Stored.reads g.R.Stored.reads g.L.PartialEq.eq g.R.PartialEq.eq _ _ _ _ _ c.in_ok-removal.ensures c.in_ok-insertion_line.ensures e) c.joined.ensures

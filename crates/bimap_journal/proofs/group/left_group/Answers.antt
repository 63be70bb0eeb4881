use Rattle.bimap_journal.proofs.Batches.{group_of_line}
use Rattle.bimap_journal.proofs.Opened.{ok_then}
use Rattle.bimap_journal.proofs.group.left_group.Goals as goal

pub returns : goal.returns
returns g c = ok_then c.closed.result (λ group e. group_of_line g.L.Stored.reads g.R.Stored.reads g.L.PartialEq.eq g.R.PartialEq.eq _ _ _ c.in_ok-left_line.ensures e) c.closed.ensures

use Rattle.bimap_journal.proofs.Kept.{line_of_clear}
use Rattle.bimap_journal.proofs.Opened.{ok_then}
use Rattle.bimap_journal.proofs.group.clear_line.Goals as goal

pub returns-in-Ok : goal.returns-in-Ok
returns-in-Ok g c = ok_then c.line_of.result (λ line h. (h.0, line_of_clear g.L.Stored.reads g.R.Stored.reads g.L.PartialEq.eq g.R.PartialEq.eq g.met.L.Eq.laws g.met.R.Eq.laws h.0 _ h.1 c.in-Ok.ensures, h.2, h.3)) c.line_of.ensures

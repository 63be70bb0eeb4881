use Rattle.std.proofs.Common.{arith}
use Rattle.std.proofs.lemmas.Grind.{common_steps}
use Rattle.bimap_journal.proofs.disk.Disk.set_len.Goals as goal

pub returns : goal.returns
returns g c = let h = c.note.ensures in (h.0, grind (arith, common_steps))

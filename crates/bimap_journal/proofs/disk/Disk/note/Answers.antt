use Rattle.std.proofs.Common.{arith}
use Rattle.std.proofs.lemmas.Grind.{common_steps}
use Rattle.bimap_journal.proofs.disk.Disk.note.Goals as goal

pub returns : goal.returns
returns g c = (c.self.inside.nothing, grind (arith, common_steps))

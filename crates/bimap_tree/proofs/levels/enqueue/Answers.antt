use Rattle.std.proofs.Common.{arith}
use Rattle.std.proofs.lemmas.Grind.{common_steps}
use Rattle.bimap_tree.proofs.Queues.{enqueued}
use Rattle.bimap_tree.proofs.levels.enqueue.Goals as goal

pub returns-clause-rooted : goal.returns-clause-rooted
returns-clause-rooted g c = enqueued _ _ _ _ _ (omega (arith, c.requires.room, c.requires.long)) (grind (arith, common_steps)) c.requires.tree c.requires.rooted

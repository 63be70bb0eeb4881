use Rattle.bimap_any.proofs.Inserted.{added_inverse}
use Rattle.bimap_any.proofs.inverse.undo.put_back.Goals as goal

pub returns-clause-added : goal.returns-clause-added
returns-clause-added g c = added_inverse c.requires.free c.requires.alone c.in-Ok.ensures.answer

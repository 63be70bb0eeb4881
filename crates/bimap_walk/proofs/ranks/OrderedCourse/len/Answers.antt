use Rattle.std.proofs.Common.{◌∙◌, sym}
use Rattle.bimap_walk.proofs.Listed.{length-pairs_at}
use Rattle.bimap_walk.proofs.ranks.OrderedCourse.len.Goals as goal

pub returns : goal.returns
returns g c = c.len.ensures ∙ sym (length-pairs_at c.args._pairs.now _ c.requires.stands.live)

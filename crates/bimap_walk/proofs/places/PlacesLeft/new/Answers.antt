use Rattle.std.proofs.Common.{◌∙◌}
use Rattle.bimap_base.proofs.Compaction.{counted_in}
use Rattle.bimap_walk.proofs.places.PlacesLeft.new.Goals as goal

pub returns-clause-left : goal.returns-clause-left
returns-clause-left g c = c.len.ensures.value ∙ counted_in c.args.pairs.now

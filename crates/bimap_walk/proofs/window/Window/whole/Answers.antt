use Rattle.std.proofs.Common.{◌∙◌}
use Rattle.bimap_walk.proofs.Windows.{between_all}
use Rattle.bimap_walk.proofs.window.Window.whole.Goals as goal

pub returns-clause-places : goal.returns-clause-places
returns-clause-places c = c.new.ensures.places ∙ between_all c.args.index.now.places c.len.result c.len.ensures.len

use Rattle.std.proofs.Common.{◌+◌, ◌*◌, Some}
use Rattle.bimap_tree.specs.IndexView.{height_at}
use Rattle.bimap_tree.proofs.walk.+fill.Given as goal

abbrev pub decreases-fill_tree : goal.decreases-fill_tree
decreases-fill_tree g l = 2 * l.node.height + 1

abbrev pub decreases-fill_high : goal.decreases-fill_high
decreases-fill_high g l = 2 * height_at l.cells.now (Some l.at)

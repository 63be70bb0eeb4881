use Rattle.std.proofs.Common.{rules}
use Rattle.bimap_base.proofs.cells.Cells.places.Goals as goal

pub returns-in-Narrow : goal.returns-in-Narrow
returns-in-Narrow c = search rules

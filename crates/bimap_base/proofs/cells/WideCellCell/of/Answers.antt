use Rattle.std.proofs.Common.{rules}
use Rattle.bimap_base.proofs.cells.WideCellCell.of.Goals as goal

pub returns : goal.returns
returns c = search rules

use Rattle.std.proofs.Common.{rules}
use Rattle.bimap_base.proofs.cells.Cells.new.Goals as goal

pub returns : goal.returns
returns c = search rules

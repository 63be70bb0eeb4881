use Rattle.std.proofs.Common.{rules}
use Rattle.bimap_chain.proofs.cells.ChainCell.of.Goals as goal

pub returns : goal.returns
returns g c = search rules

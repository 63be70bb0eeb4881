use Rattle.std.proofs.Common.{rules}
use Rattle.bimap_chain.proofs.cells.ChainCell.number.Goals as goal

pub returns-else-link-most : goal.returns-else-link-most
returns-else-link-most g c = search rules

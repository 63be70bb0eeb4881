use Rattle.std.proofs.Common.{arith}
use Rattle.bimap_base.proofs.cells.NarrowCellCell.linked.Goals as goal

pub link_to-link-requires : goal.link_to-link-requires
link_to-link-requires c = (c.requires.0, (c.requires.2, omega (arith, c.requires.1)))

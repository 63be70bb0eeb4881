use Rattle.std.proofs.Common.{arith, rules}
use Rattle.bimap_base.proofs.NodesInCells.{low_enough}
use Rattle.bimap_base.proofs.cells.NarrowCellCell.of.Goals as goal

pub overflow_mul-result : goal.overflow_mul-result
overflow_mul-result c = omega (arith, low_enough c.requires.0 c.requires.1 _ c.requires.2.height)

pub overflow_add-result : goal.overflow_add-result
overflow_add-result c = omega (arith, low_enough c.requires.0 c.requires.1 _ c.requires.2.height, c.requires.1, c.requires.2.size)

pub overflow_cast-result-3 : goal.overflow_cast-result-3
overflow_cast-result-3 c = omega (arith, low_enough c.requires.0 c.requires.1 _ c.requires.2.height, c.requires.1, c.requires.2.size)

pub returns : goal.returns
returns c = search rules

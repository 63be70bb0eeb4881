use Rattle.std.proofs.Common.{arith, rules}
use Rattle.bimap_base.proofs.cells.WideCellCell.counted.Goals as goal

pub overflow_add-result : goal.overflow_add-result
overflow_add-result c = omega (arith, c.requires.1, c.requires.2.more c.if-grew.true)

pub returns-else-grew : goal.returns-else-grew
returns-else-grew c = search rules

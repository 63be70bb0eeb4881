use Rattle.std.proofs.Common.{rules}
use Rattle.bimap_base.proofs.cells.Cells.grow.Goals as goal

pub returns-then-to-lt-WIDE-clause-ok : goal.returns-then-to-lt-WIDE-clause-ok
returns-then-to-lt-WIDE-clause-ok c = search rules

use Rattle.std.proofs.Common.{◌≡◌, ◌+◌, sum_by, take}
use Rattle.bimap_c.proofs.unpack.are_within.Given as goal

abbrev pub invariant-loop-row : goal.invariant-loop-row
invariant-loop-row g l = (l.room + sum_by g.R.RightOfRow.row_len (take l.row-index l.rows) ≡ l.len)

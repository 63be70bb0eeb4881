use Rattle.std.proofs.Common.{◌≡◌, sum_by, take}
use Rattle.bimap_c.specs.Bytes.{kept}
use Rattle.bimap_c.specs.Packed.{bytes_of}
use Rattle.bimap_c.proofs.Unpacking.{AreTaken}
use Rattle.bimap_c.proofs.unpack.insert_rows.Given as goal

abbrev pub invariant-loop-at : goal.invariant-loop-at
invariant-loop-at g l = record {
  taken : AreTaken g.R.PartialEq.eq g.R.RightOfRow.row_of (bytes_of g.R.RightOfRow.right_bytes) (kept g.B.Bijection.holding l.fn.table) l.rows l.bytes l.at l.from (kept g.B.Bijection.holding l.table);
  used : l.from ≡ sum_by g.R.RightOfRow.row_len (take l.at l.rows);
}

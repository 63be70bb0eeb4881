use Rattle.std.proofs.Common.{◌≡◌, length, map}
use Rattle.std.specs.Map.Iter.{deref_pair}
use Rattle.bimap_c.specs.Packed.{ArePacked, bytes_of}
use Rattle.bimap_c.proofs.fill.pack_rows.Given as goal

abbrev pub invariant-loop-left : goal.invariant-loop-left
invariant-loop-left g l = record {
  can : (goal.iterator-loop-left g).can_next l.left-iterator;
  ends : (goal.iterator-loop-left g).is_finite l.left-iterator;
  count : l.count ≡ length l.yielded;
  packed : ArePacked (bytes_of g.R.RightOfRow.right_bytes) g.R.RightOfRow.row_of (map deref_pair l.yielded) l.fn.rows l.rows l.count l.fn.buf l.buf l.used;
}

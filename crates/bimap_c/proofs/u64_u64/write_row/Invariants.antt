use Rattle.std.proofs.Common.{◌≡◌, ◌<◌, ◌++◌, ℕ, List, length, map, take, drop}
use Rattle.std.specs.Iterator.{AlwaysYields}
use Rattle.std.specs.Map.Iter.{deref_pair}
use Rattle.bimap_c.specs.U64U64.{row}
use Rattle.bimap_c.proofs.u64_u64.write_row.Given as goal

abbrev pub invariant-loop-left : goal.invariant-loop-left
invariant-loop-left g l = record {
  can : (goal.iterator-loop-left g).can_next l.left-iterator;
  ends : (goal.iterator-loop-left g).is_finite l.left-iterator;
  count : l.filled ≡ length l.yielded;
  room : l.filled < length l.fn.row;
  written : (pairs : List (ℕ × ℕ)) → AlwaysYields g.W.Iterator.next_gives deref_pair l.fn.walk pairs → l.row ≡ map row (take l.filled pairs) ++ drop l.filled l.fn.row;
}

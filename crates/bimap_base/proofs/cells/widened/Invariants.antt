use Rattle.std.proofs.Common.{◌≡◌, ◌≤◌, length, map, take}
use Rattle.std.specs.Prelude.{vec_capacity}
use Rattle.bimap_base.specs.NodesInCells.{narrow_node, wide_node}
use Rattle.bimap_base.proofs.cells.widened.Given as goal

abbrev pub invariant-loop-cell : goal.invariant-loop-cell
invariant-loop-cell l =
    record {
      same : map wide_node l.wide.items ≡ map narrow_node (take l.cell-index l.cell-items);
      count : length l.wide.items ≡ l.cell-index;
      room : l.to ≤ vec_capacity l.wide;
    }

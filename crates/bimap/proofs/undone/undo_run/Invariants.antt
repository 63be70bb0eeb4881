use Rattle.std.proofs.Common.{◌≡◌, ◌+◌, ◌≤◌, ◌++◌, List, length, vec_len}
use Rattle.bimap_base.specs.declared.overwritten.Overwritten.{Overwritten}
use Rattle.bimap.specs.Trail.{Leads, LeadsWithin, IsRoomAfterUndoing}
use Rattle.bimap.proofs.undone.undo_run.Given as goal

abbrev pub invariant-loop-left : goal.invariant-loop-left
invariant-loop-left g l = record {
  lenders : g.B.Bijection.lenders l.bimap ≡ g.B.Bijection.lenders l.fn.bimap;
  undone : List (g.row.L.Denot × Overwritten g.row.L.Denot g.row.R.Denot);
  beginning : l.fn.entries.items ≡ l.entries.items ++ undone;
  led : (first : List (g.row.L.Denot × g.row.R.Denot)) → Leads g.L.PartialEq.eq g.R.PartialEq.eq first l.fn.entries.items (g.B.Bijection.holding l.fn.bimap).pairs → Leads g.L.PartialEq.eq g.R.PartialEq.eq first l.entries.items (g.B.Bijection.holding l.bimap).pairs;
  no_longer : length (g.B.Bijection.holding l.bimap).pairs + length l.entries.items ≤ length (g.B.Bijection.holding l.fn.bimap).pairs + length l.fn.entries.items;
  room : IsRoomAfterUndoing (g.B.Bijection.holding l.fn.bimap) l.fn.entries.items (g.B.Bijection.holding l.bimap);
  fits : (first : List (g.row.L.Denot × g.row.R.Denot)) → LeadsWithin g.L.PartialEq.eq g.R.PartialEq.eq (g.B.Bijection.holding l.fn.bimap).room first l.fn.entries.items (g.B.Bijection.holding l.fn.bimap).pairs → LeadsWithin g.L.PartialEq.eq g.R.PartialEq.eq (g.B.Bijection.holding l.fn.bimap).room first l.entries.items (g.B.Bijection.holding l.bimap).pairs × ((g.B.Bijection.holding l.bimap).room ≡ (g.B.Bijection.holding l.fn.bimap).room);
}

abbrev pub decreases-loop-left : goal.decreases-loop-left
decreases-loop-left g l = vec_len l.entries

use Rattle.std.proofs.Common.{◌+◌, ◌≤◌, length}
use Rattle.bimap_base.specs.Slots.{left_at, right_at}
use Rattle.bimap_core.proofs.table.Table.descend.Given as goal

abbrev pub invariant-loop-to_right : goal.invariant-loop-to_right
invariant-loop-to_right g l =
    record {
      left : g.I.Index.under_way l.self.left (left_at l.self.pairs) l.left l.to_left l.left_spot;
      right : g.J.Index.under_way l.self.right (right_at l.self.pairs) l.right l.to_right l.right_spot;
      compared : g.M.Meter.comparisons l.meter + g.I.Index.ahead l.self.left l.to_left + g.J.Index.ahead l.self.right l.to_right ≤ g.M.Meter.comparisons l.fn.meter + g.I.Index.effort (length (g.I.Index.places l.self.left)) + g.J.Index.effort (length (g.J.Index.places l.self.right));
      touched : g.M.Meter.touches l.meter + g.I.Index.ahead l.self.left l.to_left + g.J.Index.ahead l.self.right l.to_right ≤ g.M.Meter.touches l.fn.meter + g.I.Index.effort (length (g.I.Index.places l.self.left)) + g.J.Index.effort (length (g.J.Index.places l.self.right));
    }

abbrev pub decreases-loop-to_right : goal.decreases-loop-to_right
decreases-loop-to_right g l = g.I.Index.ahead l.self.left l.to_left

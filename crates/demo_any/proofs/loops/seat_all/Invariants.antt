use Rattle.std.proofs.Common.{Contains}
use Rattle.demo_any.proofs.loops.seat_all.Given as goal

abbrev pub invariant-loop-guest : goal.invariant-loop-guest
invariant-loop-guest g l =
    (p : _) → Contains (g.B.Bijection.holding l.fn.ledger).pairs p → Contains (g.B.Bijection.holding l.ledger).pairs p

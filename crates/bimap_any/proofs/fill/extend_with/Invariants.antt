use Rattle.std.proofs.Common.{◌≡◌, ◌^◌, ◌-◌, length, min}
use Rattle.bimap_any.proofs.Extending.{ArePutIn}
use Rattle.bimap_base.specs.Positions.{ComeInOrder}
use Rattle.bimap_any.proofs.fill.extend_with.Given as goal

abbrev pub invariant-loop-left : goal.invariant-loop-left
invariant-loop-left g l = record {
  callable : (goal.iterator-loop-left g).can_next l.left-iterator;
  ends : (goal.iterator-loop-left g).is_finite l.left-iterator;
  taken : l.taken ≡ min (length l.yielded) (2 ^ 64 - 1);
  put_in : ArePutIn g.L.PartialEq.eq g.R.PartialEq.eq (g.B.Bijection.holding l.initial.bimap) l.yielded l.fn.policy (g.B.Bijection.holding l.bimap);
  lenders : g.B.Bijection.lenders l.bimap ≡ g.B.Bijection.lenders l.fn.bimap;
  in_turn : g.B.Bijection.appends → ComeInOrder (g.B.Bijection.holding l.initial.bimap).pairs l.yielded (g.B.Bijection.holding l.bimap).pairs;
}

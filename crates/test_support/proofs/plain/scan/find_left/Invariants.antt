use Rattle.std.proofs.Common.{◌≡◌, ◌<◌, ℕ, get_or, false}
use Rattle.test_support.proofs.plain.scan.find_left.Given as goal

abbrev pub invariant-loop-pair : goal.invariant-loop-pair
invariant-loop-pair g l = (k : ℕ) (d : _) → k < l.pair-index → g.L.PartialEq.eq (get_or l.pairs k d).0 l.left ≡ false

use Rattle.std.proofs.Common.{◌≡◌}
use Rattle.bimap_any.specs.Same.{lexicographic}
use Rattle.bimap_kinds.proofs.compare_ordered.order_of.Given as goal

abbrev pub invariant-loop-pair : goal.invariant-loop-pair
invariant-loop-pair g l =
    let order = lexicographic g.L.Ord.cmp g.R.Ord.cmp in
    order l.pair-iterator l.second ≡ order l.initial.pair-iterator l.initial.second

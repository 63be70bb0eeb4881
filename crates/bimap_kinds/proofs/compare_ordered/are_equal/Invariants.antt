use Rattle.std.proofs.Common.{◌≡◌}
use Rattle.std.specs.Cmp.Lexicographic.{pointwise}
use Rattle.bimap_any.specs.Same.{pair_eq}
use Rattle.bimap_kinds.proofs.compare_ordered.are_equal.Given as goal

abbrev pub invariant-loop-pair : goal.invariant-loop-pair
invariant-loop-pair g l =
    let E = pair_eq g.L.PartialEq.eq g.R.PartialEq.eq in
    pointwise E l.pair-iterator l.second ≡ pointwise E l.initial.pair-iterator l.initial.second

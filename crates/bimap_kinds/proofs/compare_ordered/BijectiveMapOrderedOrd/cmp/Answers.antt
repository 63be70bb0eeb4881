use Rattle.bimap_any.specs.Same.{lexicographic}
use Rattle.std.proofs.Common.{◌∙◌}
use Rattle.bimap_kinds.proofs.compare_ordered.BijectiveMapOrderedOrd.cmp.Goals as goal

pub returns : goal.returns
returns g c = c.order_of.ensures ∙ (λ i. lexicographic g.L.Ord.cmp g.R.Ord.cmp (c.iter.ensures.rest i) (c.iter-2.ensures.rest i))

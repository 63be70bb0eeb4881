use Rattle.std.proofs.Common.{sym, ◌∙◌}
use Rattle.std.specs.Cmp.Lexicographic.{pointwise}
use Rattle.bimap_any.specs.Same.{pair_eq}
use Rattle.bimap_any.proofs.SameAscending.{same_is_pointwise}
use Rattle.bimap_kinds.specs.Held.{holding}
use Rattle.bimap_kinds.proofs.compare_ordered.BijectiveMapOrderedPartialEq.eq.Goals as goal

pub returns : goal.returns
returns g c =
    let a = c.args.self.now in
    let b = c.args.other.now in
    let E = pair_eq g.L.PartialEq.eq g.R.PartialEq.eq in
    c.are_equal.ensures
    ∙ (λ i. pointwise E (c.iter.ensures.rest i) (c.iter-2.ensures.rest i))
    ∙ sym (same_is_pointwise g.L.Ord.cmp g.met.L.Ord.total g.L.PartialEq.eq g.R.PartialEq.eq g.met.L.Ord.matches_eq (holding a).pairs (holding b).pairs a.ascending b.ascending)

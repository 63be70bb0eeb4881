use Rattle.std.proofs.Common.{ap, ◌∙◌}
use Rattle.std.specs.List.{filter}
use Rattle.bimap_kinds.specs.Held.{by_right}
use Rattle.bimap_kinds.proofs.Ranges.{between_keys}
use Rattle.bimap_kinds.proofs.walks.BijectiveMap+L+R+I+Ordered.right_range.Goals as goal

pub returns-clause-rest : goal.returns-clause-rest
returns-clause-rest g c = λ bounds.
    c.right_range_between.ensures.rest ∙ ap (λ test. filter (λ p. test p.1) (by_right c.args.self.now))
    (between_keys g.R.Ord.cmp g.met.R.Ord.total (λ q. q.now) _ _ _ _ (c.start_bound.ensures bounds) (c.end_bound.ensures bounds))

use Rattle.std.proofs.Common.{ap, ◌∙◌}
use Rattle.std.specs.List.{filter}
use Rattle.bimap_kinds.specs.Held.{holding}
use Rattle.bimap_kinds.proofs.Ranges.{between_keys}
use Rattle.bimap_kinds.proofs.walks.BijectiveMap+L+R+Ordered+J.left_range.Goals as goal

pub returns-clause-rest : goal.returns-clause-rest
returns-clause-rest g c = λ bounds.
    c.left_range_between.ensures.rest ∙ ap (λ test. filter (λ p. test p.0) (holding c.args.self.now).pairs)
    (between_keys g.L.Ord.cmp g.met.L.Ord.total (λ q. q.now) _ _ _ _ (c.start_bound.ensures bounds) (c.end_bound.ensures bounds))

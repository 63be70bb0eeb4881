use Rattle.std.proofs.Common.{subst, sym}
use Rattle.bimap_tree.specs.Ranges.{is_past_end}
use Rattle.bimap_tree.specs.Spans.{IsCut}
use Rattle.bimap_tree.proofs.span.rank_of_end.Goals as goal

pub returns-in-Included-clause-cut : goal.returns-in-Included-clause-cut
returns-in-Included-clause-cut g c =
    subst (λ b. IsCut (is_past_end g.Q.Sought.order b) (g.K.Keys.key_at c.args.keys.now) c.args.index.now.places c.rank_from.result) (sym c.in-Included.is) c.rank_from.ensures.cut

pub returns-in-Excluded-clause-cut : goal.returns-in-Excluded-clause-cut
returns-in-Excluded-clause-cut g c =
    subst (λ b. IsCut (is_past_end g.Q.Sought.order b) (g.K.Keys.key_at c.args.keys.now) c.args.index.now.places c.rank_from-in-Excluded.result) (sym c.in-Excluded.is) c.rank_from-in-Excluded.ensures.cut

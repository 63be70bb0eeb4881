use Rattle.std.proofs.Common.{arith}
use Rattle.bimap_tree.proofs.Spans.{span_from_cuts}
use Rattle.bimap_tree.proofs.span.Span.of.Goals as goal

pub returns-clause-inside : goal.returns-clause-inside
returns-clause-inside g c = span_from_cuts _ g.Q.Sought.order c.args.start c.args.end _ _ _ _ c.rank_from-front.ensures.cut c.rank_of_end-back.ensures.cut (omega (arith, c.max.ensures))

pub returns-clause-ordered : goal.returns-clause-ordered
returns-clause-ordered g c = omega (arith, c.max.ensures)

pub returns-clause-comparisons : goal.returns-clause-comparisons
returns-clause-comparisons g c = omega arith

pub returns-clause-touches : goal.returns-clause-touches
returns-clause-touches g c = omega arith

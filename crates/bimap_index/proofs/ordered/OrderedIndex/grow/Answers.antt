use Rattle.std.proofs.Common.{arith}
use Rattle.std.proofs.lemmas.Result.{on_ok_weaker}
use Rattle.bimap_index.proofs.ordered.OrderedIndex.grow.Goals as goal

pub returns-clause-ok : goal.returns-clause-ok
returns-clause-ok g c = on_ok_weaker c.grow.result (λ e. omega (arith, e)) c.grow.ensures.ok

pub returns-clause-enough : goal.returns-clause-enough
returns-clause-enough g c = search

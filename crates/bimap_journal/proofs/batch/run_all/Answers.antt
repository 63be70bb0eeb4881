use Rattle.std.proofs.Common.{subst}
use Rattle.std.specs.List.{zip}
use Rattle.bimap.specs.History.{IsHistory}
use Rattle.bimap_journal.proofs.Batches.{any_test}
use Rattle.bimap_journal.proofs.Opened.{ok_then}
use Rattle.bimap_journal.proofs.batch.run_all.Goals as goal

pub returns-clause-ran : goal.returns-clause-ran
returns-clause-ran g c =
    ok_then c.run.result
    (λ replies history none. subst (λ test. IsHistory g.L.PartialEq.eq g.R.PartialEq.eq test (g.B.Bijection.holding c.args.map.now) (zip c.args.calls.items replies.items) (g.B.Bijection.holding c.run.new.bimap)) (any_test none _ _) history)
    c.run.ensures.history

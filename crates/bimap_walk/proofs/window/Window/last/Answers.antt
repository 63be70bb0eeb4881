use Rattle.std.proofs.Common.{arith}
use Rattle.bimap_walk.proofs.Ready.{fewer_ready_in}
use Rattle.bimap_walk.proofs.window.Window.last.Goals as goal

pub returns-clause-window : goal.returns-clause-window
returns-clause-window c =
    let now = c.has_last.ensures.read.window in
    record {
      ordered = now.ordered;
      apart = now.apart;
      ordered_back = omega (arith, c.has_last.ensures.ready c.if-not-has_last.false);
      within = omega (arith, now.within);
      distinct = now.distinct;
      ahead = now.ahead;
      behind = fewer_ready_in _ _ _ _ _ _ (omega arith) (omega arith) now.behind;
    }

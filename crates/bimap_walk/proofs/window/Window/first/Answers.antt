use Rattle.std.proofs.Common.{arith}
use Rattle.bimap_walk.proofs.Ready.{fewer_ready}
use Rattle.bimap_walk.proofs.window.Window.first.Goals as goal

pub at-place-requires-clause-has : goal.at-place-requires-clause-has
at-place-requires-clause-has c = let now = c.has_first.ensures.read.window in now.ahead.has c.has_first.new.self.front (omega arith) (c.has_first.ensures.ready c.if-not-has_first.false)

pub returns-clause-window : goal.returns-clause-window
returns-clause-window c =
    let now = c.has_first.ensures.read.window in
    record {
      ordered = omega (arith, c.has_first.ensures.ready c.if-not-has_first.false);
      apart = now.apart;
      ordered_back = now.ordered_back;
      within = now.within;
      distinct = now.distinct;
      ahead = fewer_ready _ _ _ _ _ _ (omega arith) (omega arith) now.ahead;
      behind = now.behind;
    }

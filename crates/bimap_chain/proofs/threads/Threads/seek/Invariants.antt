use Rattle.std.proofs.Common.{length}
use Rattle.bimap_chain.specs.Threads.{numbers_of}
use Rattle.bimap_chain.proofs.Walk.{Along, Passed}
use Rattle.bimap_chain.proofs.threads.Threads.seek.Given as goal

abbrev pub invariant-loop-at : goal.invariant-loop-at
invariant-loop-at g l =
    Along (numbers_of l.self) (length l.self.heads) l.bucket l.over l.end l.at
    × Passed (g.S.Spread.key_at l.spread) (λ k. g.S.Spread.same_key k l.query) (numbers_of l.self) l.end

abbrev pub decreases-loop-at : goal.decreases-loop-at
decreases-loop-at g l = l.end

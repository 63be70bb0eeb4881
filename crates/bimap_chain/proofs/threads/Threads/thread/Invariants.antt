use Rattle.std.proofs.Common.{◌≡◌, length}
use Rattle.bimap_chain.specs.Threads.{numbers_of, links_of, IsSized}
use Rattle.bimap_chain.proofs.Rethread.{ThreadedBelow}
use Rattle.bimap_chain.proofs.threads.Threads.thread.Given as goal

abbrev pub invariant-loop-place : goal.invariant-loop-place
invariant-loop-place g l = record {
  numbers : numbers_of l.self ≡ numbers_of l.fn.self;
  cells : length l.self.cells ≡ l.cells;
  sized : IsSized (length l.self.cells) (length l.self.heads);
  threaded : ThreadedBelow (numbers_of l.self) (links_of l.self) l.self.heads l.place;
}

use Rattle.std.proofs.Common.{◌≡◌, length, None, replicate}
use Rattle.bimap_chain.specs.Threads.{numbers_of}
use Rattle.bimap_chain.proofs.Rehashed.{IsRehashedTo}
use Rattle.bimap_chain.proofs.threads.Threads.rehashed.Given as goal

abbrev pub invariant-loop-place : goal.invariant-loop-place
invariant-loop-place g l = record {
  numbers : IsRehashedTo (g.S.Spread.key_at l.spread) (g.S.Spread.number_of l.spread) l.place (numbers_of l.copy);
  cells : length l.copy.cells ≡ length l.self.cells;
  heads : l.copy.heads ≡ replicate (length l.self.heads) None;
}

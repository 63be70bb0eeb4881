use Rattle.std.proofs.Common.{◌≡◌, length, take}
use Rattle.bimap_base.specs.Places.{pairs_in, compacted}
use Rattle.bimap_chain.specs.Threads.{numbers_of, IsSound}
use Rattle.bimap_chain.proofs.threads.Threads.compacted.Given as goal

abbrev pub invariant-loop-place : goal.invariant-loop-place
invariant-loop-place g l = record {
  sound : IsSound l.kept;
  next : l.next ≡ length (pairs_in (take l.place (numbers_of l.self)));
  kept : numbers_of l.kept ≡ compacted (pairs_in (take l.place (numbers_of l.self))) l.to;
}

use Rattle.std.proofs.Common.{◌≡◌, ◌-◌, ◌++◌, take, replicate, None}
use Rattle.bimap_chain.specs.Threads.{numbers_of, IsSound}
use Rattle.bimap_chain.proofs.threads.Threads.widened.Given as goal

abbrev pub invariant-loop-place : goal.invariant-loop-place
invariant-loop-place g l = record {
  sound : IsSound l.wide;
  numbers : numbers_of l.wide ≡ take l.place (numbers_of l.self) ++ replicate (l.to - l.place) None;
}

use Rattle.std.proofs.Common.{◌≡◌, length, vec_len, ◌++◌}
use Rattle.std.specs.List.{zip}
use Rattle.std.specs.Vec.{vec_capacity}
use Rattle.std.specs.Vec.Iter.{into_iter_items}
use Rattle.bimap.specs.History.{IsHistory}
use Rattle.bimap.specs.Test.{Answers}
use Rattle.bimap.proofs.runs.run.Given as goal

-- The calls so far and their replies are a history that led to the contained pairs.
abbrev pub invariant-loop-call : goal.invariant-loop-call
invariant-loop-call g l = record {
  front : l.fn.calls.items ≡ l.yielded ++ into_iter_items l.call-iterator;
  long : length l.replies.items ≡ length l.yielded;
  capacity : vec_capacity l.replies ≡ vec_len l.fn.calls;
  same_test : l.test ≡ l.fn.test;
  lenders : g.B.Bijection.lenders l.bimap ≡ g.B.Bijection.lenders l.fn.bimap;
  history : IsHistory g.L.PartialEq.eq g.R.PartialEq.eq (Answers g.F.Fn l.fn.test) (g.B.Bijection.holding l.fn.bimap) (zip l.yielded l.replies.items) (g.B.Bijection.holding l.bimap);
}

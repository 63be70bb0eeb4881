use Rattle.std.proofs.Common.{◌≡◌, drop}
use Rattle.bimap_base.specs.Places.{pairs_in}
use Rattle.bimap_walk.proofs.places.live_from.Given as goal

abbrev pub invariant-loop-place : goal.invariant-loop-place
invariant-loop-place g l = pairs_in (drop l.place l.pairs) ≡ pairs_in (drop l.fn.from l.fn.pairs)

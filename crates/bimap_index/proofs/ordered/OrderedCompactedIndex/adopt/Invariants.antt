use Rattle.std.proofs.Common.{◌≡◌, ◌≤◌, ◌+◌, ◌*◌, length}
use Rattle.bimap_base.specs.Digits.{most_height}
use Rattle.bimap_index.proofs.Adopting.{IsListedUpTo}
use Rattle.bimap_index.proofs.ordered.OrderedCompactedIndex.adopt.Given as goal

abbrev pub invariant-loop-place : goal.invariant-loop-place
invariant-loop-place g l = record {
  listed : IsListedUpTo g.K.Ord.cmp (g.S.Side.key_at l.fn.side) l.place l.self.places;
  within : l.place ≤ length l.fn.self.places;
  cells : length l.self.nodes ≡ length l.fn.compacted.nodes;
  compared : g.M.Meter.comparisons l.meter ≤ g.M.Meter.comparisons l.initial.meter + l.place * most_height (length l.fn.self.places);
  touched : g.M.Meter.touches l.meter ≤ g.M.Meter.touches l.initial.meter + l.place * (64 * (most_height (length l.fn.self.places) + 1));
}

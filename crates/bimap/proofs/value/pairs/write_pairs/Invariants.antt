use Rattle.std.proofs.Common.{◌≡◌, map}
use Rattle.serde_json.specs.View.{view}
use Rattle.bimap.specs.JsonObjects.{EachReadsBack, shown_pairs}
use Rattle.bimap.specs.JsonPairs.{two}
use Rattle.bimap.proofs.value.pairs.write_pairs.Given as goal

abbrev pub invariant-loop-left : goal.invariant-loop-left
invariant-loop-left g l = record {
  callable : (goal.iterator-loop-left g).can_next l.left-iterator;
  ends : (goal.iterator-loop-left g).is_finite l.left-iterator;
  written : map view l.items.items ≡ map (λ p. two (g.L.JsonValue.writes p.0) (g.R.JsonValue.writes p.1)) (shown_pairs l.yielded);
  reads_back : EachReadsBack g.L.JsonValue.writes g.R.JsonValue.writes g.L.JsonValue.reads g.R.JsonValue.reads g.L.PartialEq.eq g.R.PartialEq.eq (shown_pairs l.yielded);
}

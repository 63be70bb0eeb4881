use Rattle.std.proofs.Common.{◌↔◌, Contains}
use Rattle.serde_json.specs.View.{members_view}
use Rattle.bimap.specs.JsonObjects.{Entry, entries_of, Ascends, IsLastEntryOf, EachReadsBack, shown_pairs}
use Rattle.bimap.proofs.value.object.write_walk.Given as goal

abbrev pub invariant-loop-left : goal.invariant-loop-left
invariant-loop-left g l = record {
  callable : (goal.iterator-loop-left g).can_next l.left-iterator;
  ends : (goal.iterator-loop-left g).is_finite l.left-iterator;
  ascends : Ascends (entries_of (members_view l.map.entries));
  exactly : (e : Entry) → Contains (entries_of (members_view l.map.entries)) e ↔ IsLastEntryOf g.L.JsonKey.writes_key g.R.JsonValue.writes (shown_pairs l.yielded) e;
  reads_back : EachReadsBack g.L.JsonKey.writes_key g.R.JsonValue.writes g.L.JsonKey.reads_key g.R.JsonValue.reads g.L.PartialEq.eq g.R.PartialEq.eq (shown_pairs l.yielded);
}

use Rattle.std.proofs.Common.{◌≡◌, ◌+◌, length}
use Rattle.serde_json.specs.View.{members_view}
use Rattle.bimap.specs.JsonObjects.{entries_of}
use Rattle.bimap.proofs.JsonReading.{IsReading, IsReadInOrder}
use Rattle.bimap.proofs.value.object.read_into_with.Given as goal

abbrev pub invariant-loop-key : goal.invariant-loop-key
invariant-loop-key g l = record {
  reading : IsReading g.L.JsonKey.reads_key g.R.JsonValue.reads g.L.PartialEq.eq g.R.PartialEq.eq l.fn.policy (entries_of (members_view l.initial.entries)) (entries_of (members_view l.entries)) (g.B.Bijection.holding l.fn.empty).room (g.B.Bijection.holding l.bimap) l.at;
  in_turn : g.B.Bijection.appends → IsReadInOrder g.L.JsonKey.reads_key g.R.JsonValue.reads (entries_of (members_view l.initial.entries)) (entries_of (members_view l.entries)) (g.B.Bijection.holding l.bimap).pairs;
  counted : l.at + length l.entries ≡ length l.initial.entries;
}

abbrev pub decreases-loop-key : goal.decreases-loop-key
decreases-loop-key g l = length l.entries

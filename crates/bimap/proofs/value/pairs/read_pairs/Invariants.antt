use Rattle.std.proofs.Common.{map, take}
use Rattle.std.specs.List.{AllZip}
use Rattle.serde_json.specs.View.{view}
use Rattle.bimap.specs.JsonPairs.{ReadsAsPair}
use Rattle.bimap.proofs.value.pairs.read_pairs.Given as goal

abbrev pub invariant-loop-item : goal.invariant-loop-item
invariant-loop-item g l = record {
  read : AllZip (ReadsAsPair g.L.JsonValue.reads g.R.JsonValue.reads) (map view (take l.item-index l.item-items)) l.pairs.items;
}

-- What a contract sees of a map.
use Rattle.std.specs.Prelude.{List}
use Rattle.bimap_base.specs.Holding.{Holding}
use Rattle.bimap_kinds.specs.HeldTable.{held, held_by_right}
use Rattle.bimap_kinds.specs.declared.map.BijectiveMap.{BijectiveMap}

module _ {L R I J LeftSpot LeftSearch RightSpot RightSearch : Type 0} {left_eq : _} {right_eq : _} {left : _} {right : _} where
  -- The contained pairs, each once, in the order of iteration by left.
  -- The field `room` is the capacity: the number of places for pairs.
  abbrev pub holding : BijectiveMap L R I J LeftSpot LeftSearch RightSpot RightSearch left_eq right_eq left right → Holding L R
  holding bimap = held bimap.table

  -- The contained pairs, in the order of iteration by right.
  abbrev pub by_right : BijectiveMap L R I J LeftSpot LeftSearch RightSpot RightSearch left_eq right_eq left right → List (L × R)
  by_right bimap = held_by_right bimap.table

  -- What the left side finds its values by: the hash builder of a hashed side.
  abbrev pub lefts_hashed_by : BijectiveMap L R I J LeftSpot LeftSearch RightSpot RightSearch left_eq right_eq left right → left.Finder
  lefts_hashed_by bimap = left.finds_by bimap.table.left

  -- What the right side finds its values by: the hash builder of a hashed side.
  abbrev pub rights_hashed_by : BijectiveMap L R I J LeftSpot LeftSearch RightSpot RightSearch left_eq right_eq left right → right.Finder
  rights_hashed_by bimap = right.finds_by bimap.table.right

-- What a contract sees of the table of a map.
-- A caller's goal shows these words folded.
-- Only proofs of this crate unfold them.
use Rattle.std.specs.Prelude.{List, length}
use Rattle.bimap_base.specs.Holding.{Holding}
use Rattle.bimap_base.specs.PairsAt.{pairs_at}
use Rattle.bimap_core.specs.declared.table.Table.{Table}

module _ {L R I J LeftSpot LeftSearch RightSpot RightSearch : Type 0} {left_eq : _} {right_eq : _} {left : _} {right : _} where
  -- The contained pairs, each once, in the order of iteration by left.
  -- The field `room` is the number of places for pairs.
  unfoldable pub held : Table L R I J LeftSpot LeftSearch RightSpot RightSearch left_eq right_eq left right → Holding L R
  held table = record { pairs = pairs_at table.pairs (left.places table.left); room = length table.pairs }

  -- The contained pairs, in the order of iteration by right.
  unfoldable pub held_by_right : Table L R I J LeftSpot LeftSearch RightSpot RightSearch left_eq right_eq left right → List (L × R)
  held_by_right table = pairs_at table.pairs (right.places table.right)

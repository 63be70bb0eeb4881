-- What a map contains and what its calls return, with the sides exchanged.
use Rattle.std.specs.Prelude.{map}
use Rattle.bimap_base.specs.Holding.{Holding}
use Rattle.bimap_base.specs.Inverse.{inverse_pair}
use Rattle.bimap_base.specs.declared.overwritten.Overwritten.{Overwritten}
use Rattle.bimap_base.specs.declared.overwritten.Overwritten.TheVariants.{Neither, Left, Right, Pair, Both}

module _ {L R : Type 0} where
  -- The same pairs with their sides exchanged, and the same room.
  abbrev pub inverse_holding : Holding L R → Holding R L
  inverse_holding held = record { pairs = map inverse_pair held.pairs; room = held.room }

  -- The same overwritten pairs with their sides exchanged. `Left` becomes `Right`, and `Right` becomes `Left`.
  abbrev pub inverse_answer : Overwritten L R → Overwritten R L
  inverse_answer Neither = Neither
  inverse_answer (Left l r) = Right r l
  inverse_answer (Right l r) = Left r l
  inverse_answer (Pair l r) = Pair r l
  inverse_answer (Both p q) = Both (inverse_pair q) (inverse_pair p)

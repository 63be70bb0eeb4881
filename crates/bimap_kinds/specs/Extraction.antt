-- What `extract_into` leaves. The closure may have a state.
use Rattle.std.specs.Prelude.{◌≡◌, ◌++◌, Bool, List}
use denote.Param.Members.{Mut}
use denote.Ref.{Bor}
use Rattle.bimap_base.specs.Holding.{Holding}
use Rattle.bimap_base.specs.Kept.{TestsInOrder, answered_true}
pub use Rattle.bimap_core.specs.Partition.{answered_false}

-- The closure was called once on each contained pair, in their order.
-- The pairs on which it returned `true` went to the end of the list, in that order.
-- The pairs on which it returned `false` are left.
pub record IsExtraction {F L R : Type 0} (g : Mut F (Bor L × (Bor R × Unit {0})) Bool) (old : Holding L R) (f : F) (items : List (L × R)) (new : Holding L R) (items' : List (L × R)) : Type 0 where
  pub answers : List Bool
  pub last : F
  pub calls : TestsInOrder g f old.pairs answers last
  pub gone : items' ≡ items ++ answered_true g old.pairs answers
  pub kept : new.pairs ≡ answered_false g old.pairs answers
  pub room : new.room ≡ old.room

-- A batch of members, and a registry in which none of them was registered.
use Rattle.std.specs.Prelude.{◌≡◌, Bool, Option, List}
use Rattle.std.specs.Iterator.{Drains}
use Rattle.bimap.specs.Holding.{Holding}
use Rattle.bimap.specs.Types.{ItemRefused, Policy}
use Rattle.bimap_undo.specs.Marks.{Marked}
use Rattle.bimap_undo.specs.AllOrNone.{AreNoneRecorded}

-- An iterator gave exactly these members, in order, and then it ended.
pub record AreGiven {It X : Type 0} (gives : It → Type 0) (next : It → Option X → It → Type 0) (members : List X) : Type 0 where
  pub iterator : It
  pub given : gives iterator
  pub all : Drains next iterator members

-- A registry inserted the batch under a record of changes and then undid it. It has the earlier pairs. Its capacity may
-- have grown.
pub record IsTakenBack {It L R : Type 0} (same_left : L → L → Bool) (same_right : R → R → Bool) (gives : It → Type 0) (next : It → Option (L × R) → It → Type 0) (old : Holding L R) (policy : Policy) (refused : ItemRefused L R) (new : Holding L R) : Type 0 where
  pub before : Marked L R
  pub after : Marked L R
  pub was : before.held ≡ old
  pub now_held : new ≡ after.held
  pub none : AreNoneRecorded same_left same_right gives next before policy refused after

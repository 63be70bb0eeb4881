-- What a bimap takes from an iterator. `gives it` says that the iterator may be `it`. `next` says what a call of the iterator
-- returns and leaves.
use Rattle.std.specs.Prelude.{◌≡◌, ◌⊎◌, ℕ, ◌+◌, ◌-◌, ◌^◌, ◌≤◌, Bool, Option, Some, List, ◌∷◌, ◌++◌, length, min, Contains}
use Rattle.std.specs.Iterator.{Drains, YieldsThen}
use Rattle.bimap_base.specs.Sets.{NoneShares}
use Rattle.bimap_base.specs.Answer.{IsAllowed, IsRefusalUnder}
use Rattle.bimap_any.specs.Survivors.{Survives, PutsItself, TouchesSharing, AreSurvivors}
use Rattle.bimap_any.specs.Growth.{Outgrows}
use Rattle.bimap_base.specs.Holding.{Holding, IsFull}
use Rattle.bimap_base.specs.declared.policy.Policy.{Policy}
use Rattle.bimap_base.specs.declared.refusal.ExtendStopped.{ExtendStopped}
use Rattle.bimap_base.specs.declared.refusal.ItemRefused.{ItemRefused}

-- No place is free. The old capacity is at most the number of the old pairs and these items together.
pub record IsOutOfPlaces {L R : Type 0} (old : Holding L R) (items : List (L × R)) (new : Holding L R) : Type 0 where
  pub full : IsFull new
  pub used : old.room ≤ length old.pairs + length items

module _ {L R : Type 0} (same_left : L → L → Bool) (same_right : R → R → Bool) where
  -- The capacity after these items. It is not less than before. It stays if there was a place for each item, or if the items do
  -- not outgrow it.
  pub record IsRoomAfterItems (old : Holding L R) (items : List (L × R)) (new : Holding L R) : Type 0 where
    pub not_lower : old.room ≤ new.room
    pub had_places : length old.pairs + length items ≤ old.room → new.room ≡ old.room
    pub outgrown : (new.room ≡ old.room)
        ⊎ Outgrows same_left same_right PutsItself (Survives PutsItself (TouchesSharing same_left same_right) (Contains old.pairs)) items old.room new.room

  -- The policy allows each item. When an item is inserted, the survivors of the items before it have no value of the item that
  -- the policy refuses to overwrite.
  abbrev pub AreAllowed : (L × R → Type 0) → List (L × R) → Policy → Type 0
  AreAllowed S items policy =
      (before : List (L × R)) (item : L × R) (later : List (L × R)) → items ≡ before ++ item ∷ later → IsAllowed same_left same_right (Survives PutsItself (TouchesSharing same_left same_right) S before) item policy

module _ {It L R : Type 0} (same_left : L → L → Bool) (same_right : R → R → Bool) (gives : It → Type 0) (next : It → Option (L × R) → It → Type 0) where
  -- All items were inserted in order. `new` has the survivors.
  pub record IsExtension (old new : Holding L R) : Type 0 where
    pub iterator : It
    pub items : List (L × R)
    pub given : gives iterator
    pub all : Drains next iterator items
    pub survivors : AreSurvivors same_left same_right (Contains old.pairs) items (Contains new.pairs)
    pub room : IsRoomAfterItems same_left same_right old items new

  -- All items were inserted in order, and the policy allowed each of them.
  pub record IsExtensionUnder (old : Holding L R) (policy : Policy) (new : Holding L R) : Type 0 where
    pub extension : IsExtension old new
    pub allowed : AreAllowed same_left same_right (Contains old.pairs) extension.items policy

  -- The iterator gave these items, and then this item. Its number is the count of items before it, up to 2 ^ 64 - 1.
  pub record IsNextItem (items : List (L × R)) (item : L × R) (number : ℕ) : Type 0 where
    pub iterator : It
    pub rest : It
    pub given : gives iterator
    pub next_item : YieldsThen next iterator items (Some item) rest
    pub counted : number ≡ min (length items) (2 ^ 64 - 1)

  -- These items were taken, and the next item was refused. It is handed back. It shares no value with what survives of S and the
  -- taken items.
  pub record IsRefusedNext (S : L × R → Type 0) (items : List (L × R)) (stopped : ExtendStopped L R) : Type 0 where
    pub is_next : IsNextItem items (stopped.left, stopped.right) stopped.taken
    pub strikes_none : NoneShares same_left same_right (Survives PutsItself (TouchesSharing same_left same_right) S items) (stopped.left, stopped.right)

  -- These items were taken, and the next item was refused. The reason hands it back, and is true of what survives of S and the
  -- taken items.
  pub record IsRefusedNextUnder (S : L × R → Type 0) (NoPlace : Type 0) (items : List (L × R)) (policy : Policy) (stopped : ItemRefused L R) : Type 0 where
    pub item : L × R
    pub is_next : IsNextItem items item stopped.taken
    pub allowed : AreAllowed same_left same_right S items policy
    pub why : IsRefusalUnder same_left same_right (Survives PutsItself (TouchesSharing same_left same_right) S items) NoPlace item policy stopped.why

  -- The items before the refused one were inserted in order. `new` has the survivors, and no place is free.
  pub record IsExtensionStopped (old : Holding L R) (stopped : ExtendStopped L R) (new : Holding L R) : Type 0 where
    pub items : List (L × R)
    pub refused : IsRefusedNext (Contains old.pairs) items stopped
    pub survivors : AreSurvivors same_left same_right (Contains old.pairs) items (Contains new.pairs)
    pub out_of_places : IsOutOfPlaces old items new
    pub room : IsRoomAfterItems same_left same_right old items new

  -- The items before the refused one were inserted in order, under a policy. The policy may have refused an item although places
  -- are free.
  pub record IsExtensionStoppedUnder (old : Holding L R) (policy : Policy) (stopped : ItemRefused L R) (new : Holding L R) : Type 0 where
    pub items : List (L × R)
    pub refused : IsRefusedNextUnder (Contains old.pairs) (IsOutOfPlaces old items new) items policy stopped
    pub survivors : AreSurvivors same_left same_right (Contains old.pairs) items (Contains new.pairs)
    pub room : IsRoomAfterItems same_left same_right old items new

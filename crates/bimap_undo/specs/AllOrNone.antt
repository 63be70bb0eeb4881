-- Items that are all inserted and recorded, or none of them.
use Rattle.std.specs.Prelude.{◌≡◌, ◌⊎◌, ◌+◌, ◌≤◌, ◌++◌, Bool, true, Option, List, length, Contains}
use Rattle.bimap.specs.Sets.{shares, NoneShares, IsSameSet, HasLeft, HasRight}
use Rattle.bimap.specs.Survivors.{Survives, PutsItself, TouchesSharing}
use Rattle.bimap.specs.Extension.{AreAllowed, IsRoomAfterItems, IsExtensionUnder, IsNextItem}
use Rattle.bimap.specs.Types.{Policy, Refuse, ItemRefused}
use Rattle.bimap_undo.specs.Marks.{Marked, KeepsMarks, IsRecordedRefusal}

-- Each item and each earlier pair is contained. The number of pairs grew by the number of items.
pub record AreAdded {L R : Type 0} (old items new : List (L × R)) : Type 0 where
  pub each : (p : L × R) → Contains items p → Contains new p
  pub kept : (p : L × R) → Contains old p → Contains new p
  pub count : length new ≡ length old + length items

-- What a map contains after items were inserted under a policy. These facts are true for every order of the items.
pub record AreHeldAfter {L R : Type 0} (same_left : L → L → Bool) (same_right : R → R → Bool) (old items : List (L × R)) (policy : Policy) (new : List (L × R)) : Type 0 where
  -- An item that shares a value with no other item is contained.
  -- So is an earlier pair that shared a value with no item.
  pub item : (p : L × R) → Contains items p → ((q : L × R) → Contains items q → shares same_left same_right q p ≡ true → q ≡ p) → Contains new p
  pub other : (p : L × R) → Contains old p → NoneShares same_left same_right (Contains items) p → Contains new p
  -- Nothing else is contained.
  pub only : (p : L × R) → Contains new p → Contains items p ⊎ Contains old p
  pub at_most : length new ≤ length old + length items
  -- If the policy keeps one side, each value of the other side is still contained.
  -- If it keeps both sides, all pairs are.
  pub lefts : policy.right ≡ Refuse → (p : L × R) → Contains (old ++ items) p → HasLeft same_left (Contains new) p.0
  pub rights : policy.left ≡ Refuse → (p : L × R) → Contains (old ++ items) p → HasRight same_right (Contains new) p.1
  pub added : policy.left ≡ Refuse → policy.right ≡ Refuse → AreAdded old items new

-- `gives it` means that the iterator may be `it`. `next` is what its calls give and leave.
module _ {It L R : Type 0} (same_left : L → L → Bool) (same_right : R → R → Bool) (gives : It → Type 0) (next : It → Option (L × R) → It → Type 0) where
  -- All items were inserted under the policy, and each insertion was recorded.
  pub record AreAllRecorded (old : Marked L R) (policy : Policy) (new : Marked L R) : Type 0 where
    pub put_in : IsExtensionUnder same_left same_right gives next old.held policy new.held
    pub held : AreHeldAfter same_left same_right old.held.pairs put_in.extension.items policy new.held.pairs
    pub recorded : length new.entries ≡ length old.entries + length put_in.extension.items
    pub kept : KeepsMarks same_left same_right old (length old.entries) new

  -- The item after these was refused. The contained pairs and the record are as they were before the call.
  pub record AreNoneRecorded (old : Marked L R) (policy : Policy) (stopped : ItemRefused L R) (new : Marked L R) : Type 0 where
    pub items : List (L × R)
    pub item : L × R
    pub is_next : IsNextItem same_left same_right gives next items item stopped.taken
    pub allowed : AreAllowed same_left same_right (Contains old.held.pairs) items policy
    pub why : IsRecordedRefusal same_left same_right (Survives PutsItself (TouchesSharing same_left same_right) (Contains old.held.pairs) items) item policy stopped.why
    pub held : IsSameSet (Contains old.held.pairs) (Contains new.held.pairs)
    pub recorded : length new.entries ≡ length old.entries
    pub kept : KeepsMarks same_left same_right old (length old.entries) new
    pub room : IsRoomAfterItems same_left same_right old.held items new.held

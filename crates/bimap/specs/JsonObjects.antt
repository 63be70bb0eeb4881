-- The JSON object of a set of pairs, and the map of a JSON object.
use Rattle.std.specs.Prelude.{◌≡◌, ◌↔◌, ◌⊎◌, ℕ, ◌≤◌, Bool, List, [], ◌∷◌, ◌++◌, Some, None, Result, Ok, Err, length, map, Contains}
use Rattle.std.specs.List.Sorted.{IsStrictlySortedBy}
use Rattle.std.specs.Cmp.Lexicographic.{slice_cmp}
use Rattle.std.specs.Ordering.{nat_cmp}
use denote.Ref.{Bor}
use Rattle.serde_json.specs.Data.{Data, Members, no_members, member}
use Rattle.serde_json.specs.Find.{as_object}
use Rattle.bimap_base.specs.Answer.{IsRefusalUnder}
use Rattle.bimap_any.specs.Survivors.{Survives, PutsItself, TouchesSharing, AreSurvivors}
use Rattle.bimap_any.specs.Extension.{AreAllowed}
use Rattle.bimap_base.specs.Holding.{Holding}
use Rattle.bimap_base.specs.declared.policy.Policy.{Policy}
use Rattle.bimap_base.specs.declared.refusal.NotInsertedWith.TheVariants.{LeftHeld as LeftKept, RightHeld as RightKept}
use Rattle.bimap_any.specs.Growth.{Outgrows}
use Rattle.bimap.specs.JsonReading.{ReadsSomething, ReadsNothing, ReadsBack}
use Rattle.bimap.specs.declared.value.object.JsonFault.{JsonFault}
use Rattle.bimap.specs.declared.value.object.JsonFault.TheVariants.{NotAnObject, BadKey, BadValue, LeftHeld, RightHeld, Memory}

-- A key text with its value.
abbrev pub Entry : Type 0
Entry = List ℕ × Data

-- The entries of an object's members.
abbrev pub entries_of : Members → List Entry
entries_of no_members = []
entries_of (member k d ms) = (k, d) ∷ entries_of ms

-- The keys ascend in the order of their bytes.
abbrev pub Ascends : List Entry → Type 0
Ascends entries = IsStrictlySortedBy (slice_cmp nat_cmp) (map (λ e. e.0) entries)

-- The value is an object. These are its entries, in the order of the bytes of their keys.
pub record HasEntries (value : Data) (entries : List Entry) : Type 0 where
  pub members : Members
  pub is_object : as_object value ≡ Some members
  pub are : entries ≡ entries_of members
  pub ascends : Ascends entries

-- The value is an object. Its entries are the members of `S`.
pub record IsObjectOf (S : Entry → Type 0) (value : Data) : Type 0 where
  pub entries : List Entry
  pub has : HasEntries value entries
  pub exactly : (e : Entry) → Contains entries e ↔ S e

module _ {L R : Type 0} (writes_key : L → List ℕ) (writes : R → Data) where
  -- The pair is written as this entry.
  abbrev pub IsWrittenAs : L × R → Entry → Type 0
  IsWrittenAs p e = e ≡ (writes_key p.0, writes p.1)

  -- A member of `S` is written as this entry.
  abbrev pub IsEntryOf : (L × R → Type 0) → Entry → Type 0
  IsEntryOf S e = (p : L × R) × S p × IsWrittenAs p e

  -- The pair is written under the key of this entry.
  abbrev pub TakesKey : L × R → Entry → Type 0
  TakesKey p e = e.0 ≡ writes_key p.0

  -- Some pair of the list is written as this entry, and no later pair is written under its key.
  abbrev pub IsLastEntryOf : List (L × R) → Entry → Type 0
  IsLastEntryOf pairs e = Survives IsWrittenAs TakesKey (λ s. ⊥) pairs e

-- Each pair of the list reads back: what is written of it reads as an equal left and an equal right.
-- A left is written as an `X`.
abbrev pub EachReadsBack : {L R X : Type 0} → (L → X) → (R → Data) → (X → L → Type 0) → (Data → R → Type 0) → (L → L → Bool) → (R → R → Bool) → List (L × R) → Type 0
EachReadsBack {L} {R} writes_left writes reads_left reads same_left same_right pairs =
    (p : L × R) → Contains pairs p → ReadsBack same_left (reads_left (writes_left p.0)) p.0 × ReadsBack same_right (reads (writes p.1)) p.1

module _ {L R : Type 0} (reads_key : List ℕ → L → Type 0) (reads : Data → R → Type 0) where
  -- The entry reads as the pair.
  abbrev pub ReadsAs : Entry → L × R → Type 0
  ReadsAs e p = reads_key e.0 p.0 × reads e.1 p.1

  -- Each entry reads as the pair at its position.
  abbrev pub EachReadsAs : List Entry → List (L × R) → Type 0
  EachReadsAs [] [] = Unit {0}
  EachReadsAs [] (p ∷ pairs) = ⊥
  EachReadsAs (e ∷ entries) [] = ⊥
  EachReadsAs (e ∷ entries) (p ∷ pairs) = ReadsAs e p × EachReadsAs entries pairs

  -- The first `at` entries of an object read as pairs. The next entry has the property `P`.
  pub record StopsAt (value : Data) (at : ℕ) (P : Entry → Type 0) : Type 0 where
    pub before : List Entry
    pub entry : Entry
    pub rest : List Entry
    pub has : HasEntries value (before ++ entry ∷ rest)
    pub place : length before ≡ at
    pub pairs : List (L × R)
    pub read : EachReadsAs before pairs
    pub stops : P entry

  -- If the map has as many pairs as the object has entries, each entry reads as the pair at its position.
  pub record FollowEntries (value : Data) (new : List (L × R)) : Type 0 where
    pub entries : List Entry
    pub has : HasEntries value entries
    pub in_turn : length new ≡ length entries → EachReadsAs entries new

  module _ (same_left : L → L → Bool) (same_right : R → R → Bool) where
    -- All entries of the object read as pairs.
    -- The map contains exactly the survivors of these pairs.
    -- Its room is at least `places`.
    -- It is exactly `places` unless the pairs outgrow it.
    pub record IsReadInto (value : Data) (places : ℕ) (new : Holding L R) : Type 0 where
      pub entries : List Entry
      pub has : HasEntries value entries
      pub pairs : List (L × R)
      pub read : EachReadsAs entries pairs
      pub survivors : AreSurvivors same_left same_right (Contains []) pairs (Contains new.pairs)
      pub not_lower : places ≤ new.room
      pub room : (new.room ≡ places)
          ⊎ Outgrows same_left same_right PutsItself (Survives PutsItself (TouchesSharing same_left same_right) (Contains [])) pairs places new.room

    -- What reading an object into an empty map with this many places returns.
    -- An error names the first faulty entry, and checks its key before its value.
    -- Reading runs out of memory only at an entry whose key reads as a left.
    abbrev pub ReadsObject : {B : Type 0} → (B → Holding L R) → ℕ → Data → Result B JsonFault → Type 0
    ReadsObject holding places value (Ok b) = IsReadInto value places (holding b)
    ReadsObject holding places value (Err NotAnObject) = as_object value ≡ None
    ReadsObject holding places value (Err (BadKey at)) = StopsAt value at (λ e. ReadsNothing (reads_key e.0))
    ReadsObject holding places value (Err (BadValue at)) = StopsAt value at (λ e. ReadsSomething (reads_key e.0) × ReadsNothing (reads e.1))
    ReadsObject holding places value (Err Memory) = (at : ℕ) × StopsAt value at (λ e. ReadsSomething (reads_key e.0))
    ReadsObject holding places value (Err _) = ⊥

    -- In addition, the policy allowed each of these insertions.
    pub record IsReadIntoUnder (value : Data) (places : ℕ) (policy : Policy) (new : Holding L R) : Type 0 where
      pub is_read : IsReadInto value places new
      pub allowed : AreAllowed same_left same_right (Contains []) is_read.pairs policy

    -- The first `at` entries of an object read as pairs that the policy allowed.
    -- The next entry has the property `P`, given the survivors of these pairs.
    pub record StopsUnder (value : Data) (policy : Policy) (at : ℕ) (P : (L × R → Type 0) → Entry → Type 0) : Type 0 where
      pub before : List Entry
      pub entry : Entry
      pub rest : List Entry
      pub has : HasEntries value (before ++ entry ∷ rest)
      pub place : length before ≡ at
      pub pairs : List (L × R)
      pub read : EachReadsAs before pairs
      pub allowed : AreAllowed same_left same_right (Contains []) pairs policy
      pub stops : P (Survives PutsItself (TouchesSharing same_left same_right) (Contains []) pairs) entry

    -- What reading an object under a policy into such a map returns.
    -- An error names the first faulty entry.
    -- It checks the key first, then the value, then whether the policy allows the pair.
    -- Reading runs out of memory only at an entry whose key reads as a left.
    abbrev pub ReadsObjectUnder : {B : Type 0} → (B → Holding L R) → ℕ → Data → Policy → Result B JsonFault → Type 0
    ReadsObjectUnder holding places value policy (Ok b) = IsReadIntoUnder value places policy (holding b)
    ReadsObjectUnder holding places value policy (Err NotAnObject) = as_object value ≡ None
    ReadsObjectUnder holding places value policy (Err (BadKey at)) = StopsUnder value policy at (λ S e. ReadsNothing (reads_key e.0))
    ReadsObjectUnder holding places value policy (Err (BadValue at)) = StopsUnder value policy at (λ S e. ReadsSomething (reads_key e.0) × ReadsNothing (reads e.1))
    ReadsObjectUnder holding places value policy (Err (LeftHeld at)) =
        StopsUnder value policy at (λ S e. (p : L × R) × ReadsAs e p × IsRefusalUnder same_left same_right S ⊥ p policy (LeftKept p.0 p.1))
    ReadsObjectUnder holding places value policy (Err (RightHeld at)) =
        StopsUnder value policy at (λ S e. (p : L × R) × ReadsAs e p × IsRefusalUnder same_left same_right S ⊥ p policy (RightKept p.0 p.1))
    ReadsObjectUnder holding places value policy (Err Memory) = (at : ℕ) × StopsUnder value policy at (λ S e. ReadsSomething (reads_key e.0))
    ReadsObjectUnder holding places value policy (Err _) = ⊥

-- The pairs that the references show.
abbrev pub shown_pairs : {L R : Type 0} → List (Bor L × Bor R) → List (L × R)
shown_pairs [] = []
shown_pairs (x ∷ xs) = (x.0.now, x.1.now) ∷ shown_pairs xs

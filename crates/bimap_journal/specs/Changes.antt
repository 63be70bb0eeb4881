-- What the lines of a journal say about a map.
use Rattle.std.specs.Prelude.{◌≡◌, ◌↔◌, ◌⊎◌, ℕ, Bool, true, List, [], ◌∷◌, ◌++◌, codes, Result, Ok, Err}
use Rattle.std.specs.List.{AllZip}
use Rattle.serde_json.specs.Data.{Data, array, item, no_items, string}
use Rattle.bimap.specs.Sets.{shares}
use Rattle.bimap.specs.Survivors.{IsPutToStay}
use Rattle.bimap.specs.Same.{HasEqual}
use Rattle.bimap.specs.JsonReading.{ReadsNothing}
use Rattle.bimap.specs.declared.value.sides.ReadFault.{ReadFault}
use Rattle.bimap.specs.declared.value.sides.ReadFault.TheVariants.{Bad, Memory}
use Rattle.bimap_journal.specs.Lines.{header, closed, lines, AreUnbroken, HasLines, IsGroup}
use Rattle.bimap_journal.specs.Texts.{Says}
use Rattle.bimap_journal.specs.declared.change.Change.{Change}
use Rattle.bimap_journal.specs.declared.change.Change.TheVariants.{Insert, RemoveByLeft, RemoveByRight, Clear}

-- The JSON array of an insertion.
abbrev pub insert_of : Data → Data → Data
insert_of left right = array (item (string (codes "insert")) (item left (item right no_items)))

-- The JSON array of a removal by left.
abbrev pub remove_by_left_of : Data → Data
remove_by_left_of left = array (item (string (codes "remove_by_left")) (item left no_items))

-- The JSON array of a removal by right.
abbrev pub remove_by_right_of : Data → Data
remove_by_right_of right = array (item (string (codes "remove_by_right")) (item right no_items))

-- The JSON array of a removal of all pairs.
abbrev pub clear_of : Data
clear_of = array (item (string (codes "clear")) no_items)

-- The result is a value that has P, or there is no such value, or memory ran out.
abbrev pub IsReading : {T : Type 0} → (T → Type 0) → Result T ReadFault → Type 0
IsReading P (Ok value) = P value
IsReading P (Err Bad) = ReadsNothing P
IsReading P (Err Memory) = Unit {0}

module _ {L R : Type 0} (reads_left : Data → L → Type 0) (reads_right : Data → R → Type 0) where
  -- The JSON value reads as the change.
  abbrev pub Reads : Data → Change L R → Type 0
  Reads value (Insert left right) = (x y : Data) × (value ≡ insert_of x y) × reads_left x left × reads_right y right
  Reads value (RemoveByLeft left) = (x : Data) × (value ≡ remove_by_left_of x) × reads_left x left
  Reads value (RemoveByRight right) = (y : Data) × (value ≡ remove_by_right_of y) × reads_right y right
  Reads value Clear = value ≡ clear_of

  -- The text of a line reads as the change.
  pub record IsTextOf (text : List ℕ) (change : Change L R) : Type 0 where
    pub value : Data
    pub says : Says text value
    pub reads : Reads value change

-- The change inserts the pair `p`.
abbrev pub Puts : {L R : Type 0} → Change L R → L × R → Type 0
Puts (Insert left right) p = p ≡ (left, right)
Puts change p = ⊥

module _ {L R : Type 0} (same_left : L → L → Bool) (same_right : R → R → Bool) where
  -- The change touches the pair `p`: it overwrites the pair or removes it, or would do so if the pair were contained.
  abbrev pub Touches : Change L R → L × R → Type 0
  Touches (Insert left right) p = shares same_left same_right p (left, right) ≡ true
  Touches (RemoveByLeft left) p = same_left p.0 left ≡ true
  Touches (RemoveByRight right) p = same_right p.1 right ≡ true
  Touches Clear p = Unit {0}

  -- The two changes are of one kind, and have equal values.
  abbrev pub AreAlike : Change L R → Change L R → Type 0
  AreAlike (Insert l r) (Insert k s) = (same_left l k ≡ true) × (same_right r s ≡ true)
  AreAlike (RemoveByLeft l) (RemoveByLeft k) = same_left l k ≡ true
  AreAlike (RemoveByRight r) (RemoveByRight s) = same_right r s ≡ true
  AreAlike Clear Clear = Unit {0}
  AreAlike change other = ⊥

  -- T is what the change makes of S.
  abbrev pub IsAfter : Change L R → (L × R → Type 0) → (L × R → Type 0) → Type 0
  IsAfter change S T = (p : L × R) → T p ↔ (Puts change p ⊎ (S p × (Touches change p → ⊥)))

  -- Each member of one set is equal to a member of the other.
  pub record AreEqual (S T : L × R → Type 0) : Type 0 where
    pub there : (p : L × R) → S p → HasEqual same_left same_right T p
    pub back : (p : L × R) → T p → HasEqual same_left same_right S p

  -- The pairs that changes leave: some change inserts the pair, and no later one touches it.
  abbrev pub IsLeftBy : List (Change L R) → L × R → Type 0
  IsLeftBy changes p = IsPutToStay Puts Touches changes p

  module _ (reads_left : Data → L → Type 0) (reads_right : Data → R → Type 0) where
    -- The texts read as changes. Whatever changes they read as, these leave the pairs of S, or equal ones.
    pub record AreKept (texts : List (List ℕ)) (S : L × R → Type 0) : Type 0 where
      pub is_read : (changes : List (Change L R)) × AllZip (IsTextOf reads_left reads_right) texts changes
      pub leaves : (changes : List (Change L R)) → AllZip (IsTextOf reads_left reads_right) texts changes → AreEqual S (IsLeftBy changes)

    -- The text of a line reads as a change, and only as changes that are like this one.
    pub record IsLineOf (change : Change L R) (text : List ℕ) : Type 0 where
      pub is_read : (first : Change L R) × IsTextOf reads_left reads_right text first
      pub only : (other : Change L R) → IsTextOf reads_left reads_right text other → AreAlike change other

    -- The bytes are the group of one line, which says this change.
    abbrev pub IsGroupOf : Change L R → List ℕ → Type 0
    IsGroupOf change bytes = (text : List ℕ) × IsLineOf change text × IsGroup bytes (text ∷ [])

    -- The file stands for the pairs of S: they are what its lines leave. An empty file stands for none.
    pub record StandsFor (S : L × R → Type 0) (file : List ℕ) : Type 0 where
      pub texts : List (List ℕ)
      pub has : HasLines file texts ⊎ ((file ≡ []) × (texts ≡ []))
      pub kept : AreKept texts S

    -- The file has a line for each pair, in their order, which inserts this pair. It has nothing else.
    pub record IsListOf (pairs : List (L × R)) (file : List ℕ) : Type 0 where
      pub texts : List (List ℕ)
      pub is : file ≡ header ++ lines texts ++ closed ∷ []
      pub unbroken : AreUnbroken texts
      pub each : AllZip (λ text p. IsLineOf (Insert p.0 p.1) text) texts pairs

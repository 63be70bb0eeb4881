-- The JSON array of pairs. Each pair is an array of its left and its right.
use Rattle.std.specs.Prelude.{◌≡◌, ℕ, List, ◌∷◌, ◌++◌, Some, None, Result, Ok, Err, length}
use Rattle.std.specs.Global.{Vec}
use Rattle.std.specs.List.{AllZip}
use Rattle.serde_json.specs.Data.{Data, array, item, no_items}
use Rattle.serde_json.specs.Find.{as_array}
use Rattle.serde_json.specs.View.{items_of}
use Rattle.bimap.specs.JsonReading.{ReadsSomething, ReadsNothing}
use Rattle.bimap.specs.declared.value.pairs.PairsFault.{PairsFault}
use Rattle.bimap.specs.declared.value.pairs.PairsFault.TheVariants.{NotAnArray, NotAPair, BadLeft, BadRight, Memory}

-- The array of two values.
abbrev pub two : Data → Data → Data
two first second = array (item first (item second no_items))

-- The value is an array of two values.
abbrev pub IsTwo : Data → Type 0
IsTwo value = (first second : Data) × (value ≡ two first second)

-- The value is an array of two values, which have the property `P`.
abbrev pub IsTwoOf : (Data → Data → Type 0) → Data → Type 0
IsTwoOf P value = (first second : Data) × (value ≡ two first second) × P first second

module _ {L R : Type 0} (reads_left : Data → L → Type 0) (reads : Data → R → Type 0) where
  -- The value is an array of two values, which read as the left and the right of the pair.
  pub record ReadsAsPair (value : Data) (pair : L × R) : Type 0 where
    pub first : Data
    pub second : Data
    pub is_two : value ≡ two first second
    pub left : reads_left first pair.0
    pub right : reads second pair.1

  -- The first `at` items of an array read as pairs. The next item has the property `P`.
  pub record StopsAtItem (value : Data) (at : ℕ) (P : Data → Type 0) : Type 0 where
    pub before : List Data
    pub next : Data
    pub rest : List Data
    pub is_array : as_array value ≡ Some (items_of (before ++ next ∷ rest))
    pub place : length before ≡ at
    pub pairs : List (L × R)
    pub read : AllZip ReadsAsPair before pairs
    pub stops : P next

  -- The pairs of the items of an array, in order, or what is wrong with the first item that reads as no pair.
  -- Its left is checked before its right.
  -- Reading runs out of memory only at an array of two values whose first value reads as a left.
  abbrev pub ReadsPairs : Data → Result (Vec (L × R)) PairsFault → Type 0
  ReadsPairs value (Ok pairs) = (items : List Data) × (as_array value ≡ Some (items_of items)) × AllZip ReadsAsPair items pairs.items
  ReadsPairs value (Err NotAnArray) = as_array value ≡ None
  ReadsPairs value (Err (NotAPair at)) = StopsAtItem value at (λ d. ¬ IsTwo d)
  ReadsPairs value (Err (BadLeft at)) = StopsAtItem value at (IsTwoOf (λ first second. ReadsNothing (reads_left first)))
  ReadsPairs value (Err (BadRight at)) = StopsAtItem value at (IsTwoOf (λ first second. ReadsSomething (reads_left first) × ReadsNothing (reads second)))
  ReadsPairs value (Err Memory) = (at : ℕ) × StopsAtItem value at (IsTwoOf (λ first second. ReadsSomething (reads_left first)))

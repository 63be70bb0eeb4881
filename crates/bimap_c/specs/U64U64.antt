-- What a call for C returns, writes and leaves if both sides are numbers. The record of the facade holds for some
-- result. The status and the out-parameters are those of this result.
use Rattle.std.specs.Prelude.{◌≡◌, ◌⊎◌, ℕ, Option, option_map, Result, List, ◌++◌, length, take, drop, map, min, nat_eq, IfOk}
use Rattle.std.specs.Borrow.{Bor}
use Rattle.std.specs.Iterator.{AlwaysYields, YieldsFirst}
use Rattle.std.specs.Map.Iter.{TakesFirst, TakesLast, deref, deref_pair}
use Rattle.bimap.specs.Holding.{Holding, IsFoundByLeft, IsFoundByRight, IsInsertion, IsInsertionUnder, IsInsertionWithoutOverwriting, IsRemovalByLeft, IsRemovalByRight}
use Rattle.bimap.specs.Extension.{IsExtension, IsExtensionStopped}
use Rattle.bimap.specs.Types.{Overwritten, Neither, Left, Right, Pair, Both, ExtendStopped, NoRoom, NotInserted, NotInsertedWith, Policy}
use Rattle.bimap_c.specs.Calls.{made, inserted, inserted_with, Tells, on_held, AreFlags}
use Rattle.bimap_c.specs.declared.u64_u64.Overwritten.{Overwritten as Shown}
use Rattle.bimap_c.specs.declared.u64_u64.Pair.{Pair as Row}

-- A pair as C sees it.
abbrev pub row : ℕ × ℕ → Row
row p = record { left = p.0; right = p.1 }

-- The pair that C gives.
abbrev pub pair : Row → ℕ × ℕ
pair r = (r.left, r.right)

-- What was overwritten, as C sees it. Two zeros stand for a pair that does not exist.
abbrev pub shown : Overwritten ℕ ℕ → Shown
shown Neither = record { kind = 0; first = row (0, 0); second = row (0, 0) }
shown (Left l r) = record { kind = 1; first = row (l, r); second = row (0, 0) }
shown (Right l r) = record { kind = 2; first = row (l, r); second = row (0, 0) }
shown (Pair l r) = record { kind = 3; first = row (l, r); second = row (0, 0) }
shown (Both p q) = record { kind = 4; first = row p; second = row q }

-- The pairs that C gives, as an iterator. At first all of them are left.
abbrev pub AreAllOf : List Row → List (ℕ × ℕ) → Type 0
AreAllOf pairs left = left ≡ map pair pairs

-- Each call of the iterator gives the first pair that is left.
abbrev pub gives_first : List (ℕ × ℕ) → Option (ℕ × ℕ) → List (ℕ × ℕ) → Type 0
gives_first = YieldsFirst (λ left. left)

module _ (old : Holding ℕ ℕ) (status : ℕ) where
  -- What `get_by_left` does.
  abbrev pub GetsByLeft : ℕ → ℕ → Type 0
  GetsByLeft left out = (answer : Option (Bor ℕ)) × IsFoundByLeft nat_eq old left answer × Tells (option_map deref answer) status out

  -- What `get_by_right` does.
  abbrev pub GetsByRight : ℕ → ℕ → Type 0
  GetsByRight right out = (answer : Option (Bor ℕ)) × IsFoundByRight nat_eq old right answer × Tells (option_map deref answer) status out

  module _ (new : Holding ℕ ℕ) where
    -- What `insert` does.
    abbrev pub Inserts : ℕ × ℕ → Shown → Type 0
    Inserts p out = (answer : Result (Overwritten ℕ ℕ) (NoRoom ℕ ℕ)) × IsInsertion nat_eq nat_eq old p answer new × (status ≡ made answer) × IfOk answer (λ o. out ≡ shown o)

    -- What `insert_no_overwrite` does.
    abbrev pub InsertsNew : ℕ × ℕ → Type 0
    InsertsNew p = (answer : Result (Unit {0}) (NotInserted ℕ ℕ)) × IsInsertionWithoutOverwriting nat_eq nat_eq old p answer new × (status ≡ inserted answer)

    -- What `insert_with` does under a policy.
    abbrev pub InsertsUnder : ℕ × ℕ → Policy → Shown → Type 0
    InsertsUnder p policy out = (answer : Result (Overwritten ℕ ℕ) (NotInsertedWith ℕ ℕ)) × IsInsertionUnder nat_eq nat_eq old p policy answer new × (status ≡ inserted_with answer) × IfOk answer (λ o. out ≡ shown o)

    -- What `insert_with` does under two flags. With a flag above 1 nothing changes.
    pub record InsertsFlagged (p : ℕ × ℕ) (left right : ℕ) (out : Shown) : Type 0 where
      pub flags : AreFlags left right → InsertsUnder p (record { left = on_held left; right = on_held right }) out
      pub others : (AreFlags left right → ⊥) → (status ≡ 3) × (new ≡ old)

    -- What `insert_many` does, by the facade's records over the pairs as an iterator. It inserted this number of pairs: all
    -- of them, or those before one that ran out of memory.
    abbrev pub InsertsMany : List Row → ℕ → Type 0
    InsertsMany pairs taken =
        ((status ≡ 0) × (taken ≡ length pairs) × IsExtension nat_eq nat_eq (AreAllOf pairs) gives_first old new)
        ⊎ ((status ≡ 1) × (stopped : ExtendStopped ℕ ℕ) × (is : IsExtensionStopped nat_eq nat_eq (AreAllOf pairs) gives_first old stopped new) × (taken ≡ length is.items))

    -- What `remove_by_left` does.
    abbrev pub RemovesByLeft : ℕ → Row → Type 0
    RemovesByLeft left out = (answer : Option (ℕ × ℕ)) × IsRemovalByLeft nat_eq old left answer new × Tells (option_map row answer) status out

    -- What `remove_by_right` does.
    abbrev pub RemovesByRight : ℕ → Row → Type 0
    RemovesByRight right out = (answer : Option (ℕ × ℕ)) × IsRemovalByRight nat_eq old right answer new × Tells (option_map row answer) status out

    -- What `pop_first` does.
    pub record PopsFirst (out : Row) : Type 0 where
      pub taken : (answer : Option (ℕ × ℕ)) × TakesFirst (λ p. p) old.pairs answer new.pairs × Tells (option_map row answer) status out
      pub room : new.room ≡ old.room

    -- What `pop_last` does.
    pub record PopsLast (out : Row) : Type 0 where
      pub taken : (answer : Option (ℕ × ℕ)) × TakesLast (λ p. p) old.pairs answer new.pairs × Tells (option_map row answer) status out
      pub room : new.room ≡ old.room

-- The pairs of an iterator are written to the front of a row, until the row is full or there are no more. The rest of the
-- row does not change.
abbrev pub IsFilled : List (ℕ × ℕ) → List Row → ℕ → List Row → Type 0
IsFilled walk old filled new = (filled ≡ min (length old) (length walk)) × (new ≡ map row (take filled walk) ++ drop filled old)

-- What an iterator gives is written to the front of a row.
abbrev pub IsFilledBy : {W : Type 0} → (W → Option (Bor ℕ × Bor ℕ) → W → Type 0) → W → List Row → ℕ → List Row → Type 0
IsFilledBy gives walk old filled new = (pairs : List (ℕ × ℕ)) → AlwaysYields gives deref_pair walk pairs → IsFilled pairs old filled new

-- What `fill` and `fill_from` do.
abbrev pub Fills : List (ℕ × ℕ) → ℕ → List Row → ℕ → List Row → Type 0
Fills walk status old filled new = (status ≡ 0) × IsFilled walk old filled new

-- What the calls on a table of two numbers do, by the value that stands for a call.
use Rattle.std.specs.Prelude.{◌≡◌, ℕ, length, nat_eq, Contains}
use Rattle.bimap.specs.Holding.{Holding}
use Rattle.bimap.specs.Sets.{HasLeft, HasRight}
use Rattle.bimap_c.specs.Calls.{Clears, Reserves, Shrinks, Tests}
use Rattle.bimap_c.specs.U64U64.{GetsByLeft, GetsByRight, Inserts, InsertsNew, InsertsFlagged, InsertsMany, RemovesByLeft, RemovesByRight}
use Rattle.bimap_c.specs.declared.u64_u64.Overwritten.{Overwritten as Shown}
use Rattle.bimap_c.specs.declared.u64_u64.Pair.{Pair as Row}
use Rattle.bimap_c.specs.declared.u64_u64_calls.NumbersReading.{NumbersReading}
use Rattle.bimap_c.specs.declared.u64_u64_calls.NumbersReading.TheVariants.{Len, Capacity, GetByLeft, GetByRight, ContainsLeft, ContainsRight}
use Rattle.bimap_c.specs.declared.u64_u64_calls.NumbersChange.{NumbersChange}
use Rattle.bimap_c.specs.declared.u64_u64_calls.NumbersChange.TheVariants.{Reserve, ShrinkTo, Insert, InsertNoOverwrite, InsertWith, InsertMany, RemoveByLeft, RemoveByRight, Clear}

-- What a call that reads returns, and the count or the value that it writes.
abbrev pub Answers : NumbersReading → Holding ℕ ℕ → ℕ → ℕ → ℕ → Type 0
Answers Len held status count value = (status ≡ 0) × (count ≡ length held.pairs)
Answers Capacity held status count value = (status ≡ 0) × (count ≡ held.room)
Answers (GetByLeft left) held status count value = GetsByLeft held status left value
Answers (GetByRight right) held status count value = GetsByRight held status right value
Answers (ContainsLeft left) held status count value = Tests (HasLeft nat_eq (Contains held.pairs) left) status
Answers (ContainsRight right) held status count value = Tests (HasRight nat_eq (Contains held.pairs) right) status

-- What a call that may change the table returns, leaves and writes.
abbrev pub Performs : NumbersChange → Holding ℕ ℕ → ℕ → Holding ℕ ℕ → Shown → Row → ℕ → Type 0
Performs (Reserve more) old status new overwritten pair taken = Reserves old more status new
Performs (ShrinkTo least) old status new overwritten pair taken = Shrinks old least status new
Performs (Insert left right) old status new overwritten pair taken = Inserts old status new (left, right) overwritten
Performs (InsertNoOverwrite left right) old status new overwritten pair taken = InsertsNew old status new (left, right)
Performs (InsertWith left right left_refuses right_refuses) old status new overwritten pair taken =
    InsertsFlagged old status new (left, right) left_refuses right_refuses overwritten
Performs (InsertMany pairs) old status new overwritten pair taken = InsertsMany old status new pairs.now taken
Performs (RemoveByLeft left) old status new overwritten pair taken = RemovesByLeft old status new left pair
Performs (RemoveByRight right) old status new overwritten pair taken = RemovesByRight old status new right pair
Performs Clear old status new overwritten pair taken = Clears old status new

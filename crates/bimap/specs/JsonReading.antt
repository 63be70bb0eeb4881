-- What reading JSON returns, and how written JSON reads back. `P v` means that the text or the JSON value reads as `v`.
use Rattle.std.specs.Prelude.{Bool, IsTrue, Option, Some, None, Result, Ok, Err}
use Rattle.bimap.specs.declared.value.sides.ReadFault.{ReadFault}
use Rattle.bimap.specs.declared.value.sides.ReadFault.TheVariants.{Bad, Memory}

-- It reads as no value.
abbrev pub ReadsNothing : {T : Type 0} → (T → Type 0) → Type 0
ReadsNothing {T} P = (v : T) → P v → ⊥

-- It reads as some value.
abbrev pub ReadsSomething : {T : Type 0} → (T → Type 0) → Type 0
ReadsSomething {T} P = (v : T) × P v

-- The result is a value that it reads as, or `Bad` if there is none.
-- Reading runs out of memory only if there is such a value.
abbrev pub Reads : {T : Type 0} → (T → Type 0) → Result T ReadFault → Type 0
Reads P (Ok v) = P v
Reads P (Err Bad) = ReadsNothing P
Reads P (Err Memory) = ReadsSomething P

-- The result is a value that it reads as, or `None` if there is none.
abbrev pub ReadsSome : {T : Type 0} → (T → Type 0) → Option T → Type 0
ReadsSome P (Some v) = P v
ReadsSome P None = ReadsNothing P

-- It reads as some value. Each value that it reads as is equal to `v`.
pub record ReadsBack {T : Type 0} (same : T → T → Bool) (P : T → Type 0) (v : T) : Type 0 where
  pub as_value : T
  pub reads : P as_value
  pub only : (w : T) → P w → IsTrue (same w v)

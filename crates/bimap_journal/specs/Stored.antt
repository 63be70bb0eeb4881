-- What is asked of the values that a journal keeps.
use Rattle.std.specs.Prelude.{◌≡◌, ℕ, ◌≤◌, Bool, true}
use Rattle.serde_json.specs.Data.{Data, depth}

-- Arrays and objects of a value's JSON nest no deeper than this.
abbrev pub deepest : ℕ
deepest = 126

-- The JSON of no value nests too deep.
abbrev pub IsShallow : {T : Type 0} → (T → Data) → Type 0
IsShallow {T} writes = (value : T) → depth (writes value) ≤ deepest

-- What one JSON value reads as is equal.
abbrev pub ReadsAsOne : {T : Type 0} → (Data → T → Type 0) → (T → T → Bool) → Type 0
ReadsAsOne {T} reads same = (json : Data) (v w : T) → reads json v → reads json w → same v w ≡ true

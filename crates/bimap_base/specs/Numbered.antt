-- The hash numbers of keys.
use Rattle.std.specs.Prelude.{ℕ, ◌%◌, List}
use Rattle.std.specs.List.{fold}

-- The hash number of a key under a hash builder. It is the low 32 bits of the key's hash.
abbrev pub number_by : {B H W K : Type 0} → (H → ℕ) → (H → W → H) → (B → H) → (K → List W) → B → K → ℕ
number_by finish write build input builder key = finish (fold write (build builder) (input key)) % 4294967296

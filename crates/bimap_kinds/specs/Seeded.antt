-- The hasher of a seed.
use Rattle.std.specs.Prelude.{ℕ}
use Rattle.std.specs.List.{fold}
use Rattle.std.specs.Hash as fed
use Rattle.std.specs.Hash.FoldHasher as folding
use Rattle.std.specs.declared.hash.FoldHasher.{FoldHasher}

-- A new `FoldHasher` to which the seed was written as a `u64`.
abbrev pub seeded : ℕ → FoldHasher
seeded seed = fold folding.write folding.initial (fed.u64 seed)

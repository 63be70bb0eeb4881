-- The window of all ranks.
use Rattle.std.proofs.Common.{◌≡◌, ℕ, ◌-◌, List, length, take, ap, ◌∙◌, arith}
use Rattle.std.specs.List.{between}
use Rattle.std.proofs.lemmas.List.{take_all}

pub between_all : {X : Type 0} (xs : List X) (n : ℕ) → n ≡ length xs → between 0 n xs ≡ xs
between_all xs n e = let same : n - 0 ≡ n = omega arith in ap (λ k. take k xs) same ∙ take_all n xs (omega (arith, e))

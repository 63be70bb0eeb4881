-- How many pairs of an iterator are written to a row.
use Rattle.std.proofs.Common.{◌≡◌, ℕ, zero, suc, Option, Some, get_or, ◌<◌, ◌+◌, List, [], ◌∷◌, ◌++◌, length, take, drop, map, set, sym, ap, subst, ◌∙◌, arith, add-one}
use Rattle.std.proofs.lemmas.Iterator.Consumers.{YieldsList-turn}
use Rattle.std.specs.Borrow.{Bor}
use Rattle.std.specs.Iterator.{AlwaysYields, Yields}
use Rattle.std.specs.Map.Iter.{deref_pair}
use Rattle.bimap_c.specs.U64U64.{row}
use Rattle.bimap_c.specs.declared.u64_u64.Pair.{Pair as Row}

one_more : (walk : List (ℕ × ℕ)) (old : List Row) (n : ℕ) (p : ℕ × ℕ) → n < length walk → n < length old → p ≡ get_or walk n p → set (map row (take n walk) ++ drop n old) n (row p) ≡ map row (take (suc n) walk) ++ drop (suc n) old
one_more [] old n p l m e = absurd (omega (arith, l))
one_more (q ∷ walk) [] n p l m e = absurd (omega (arith, m))
one_more (q ∷ walk) (r ∷ old) zero p l m e = ap (λ x. row x ∷ old) e
one_more (q ∷ walk) (r ∷ old) (suc n) p l m e = ap (λ rows. row q ∷ rows) (one_more walk old n p (omega (arith, l)) (omega (arith, m)) e)

-- The next pair of an iterator was written to a row.
pub one_written : {W : Type 0} (gives : W → Option (Bor ℕ × Bor ℕ) → W → Type 0) (walk t u : W) (pairs : List (ℕ × ℕ)) (came : List (Bor ℕ × Bor ℕ)) (p : Bor ℕ × Bor ℕ) (old new : List Row) (n : ℕ) → AlwaysYields gives deref_pair walk pairs → Yields gives walk came t → gives t (Some p) u → n ≡ length came → n < length old → new ≡ map row (take n pairs) ++ drop n old
    → (n < length pairs) × (set new n (row (deref_pair p)) ≡ map row (take (n + 1) pairs) ++ drop (n + 1) old)
one_written gives walk t u pairs came p old new n all y step e lt is =
    let position = YieldsList-turn {steps = gives} {v = deref_pair} {s = walk} {all = pairs} (record { runs = all }) came t y (Some p) u p (λ _. Some p) step in
    let inside : n < length pairs = omega (arith, e, position.0) in (
      inside,
      ap (λ rows. set rows n (row (deref_pair p))) is ∙ subst (λ k. set (map row (take n pairs) ++ drop n old) n (row (deref_pair p)) ≡ map row (take k pairs) ++ drop k old) (sym (add-one n)) (one_more pairs old n (deref_pair p) inside lt (subst (λ k. deref_pair p ≡ get_or pairs k (deref_pair p)) (sym e) position.1)),
    )

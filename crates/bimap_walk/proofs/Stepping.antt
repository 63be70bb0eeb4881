-- One step of an iterator along a list of places.
use Rattle.std.proofs.Common.{◌≡◌, ◌≢◌, ℕ, ◌+◌, ◌≤◌, List, [], ◌∷◌, ◌++◌, length, get_or, Option, None, Some, IsSome, refl, sym, ap, subst, arith, true≢false}
use Rattle.std.specs.Prelude.{IsSomeAnd, slice_set}
use Rattle.std.specs.List.{All, AllPairs, between}
use Rattle.std.specs.Map.Iter.{TakesFirst, TakesLast}
use Rattle.std.proofs.lemmas.List.Edits.{get_or-between, length-between}
use Rattle.bimap_base.specs.PairsAt.{pairs_at}
use Rattle.bimap_base.specs.Slots.{pair_at, IsLive}
use Rattle.bimap_walk.specs.Courses.{IsStep}
use Rattle.bimap_walk.specs.Windows.{places_in, IsLiveWindow}
use Rattle.bimap_walk.specs.declared.window.Window.{Window}
use Rattle.bimap_walk.proofs.Ends.{All-first, All-behind, All-last, All-before, AllPairs-first, AllPairs-last}
use Rattle.bimap_walk.proofs.Listed.{pairs_at-first, pairs_at-last, live_beside, pairs_beside}

-- Any two elements of a part of a list are two elements of the list.
pub AllPairs-between : {X : Type 0} (R : X → X → Type 0) (xs : List X) (i j : ℕ) → j ≤ length xs → AllPairs R xs → AllPairs R (between i j xs)
AllPairs-between R xs i j within all a b d before inside =
    let long = length-between xs i j within in
    subst (λ y. R y (get_or (between i j xs) b d)) (sym (get_or-between xs i j a d (omega (arith, before, inside, long))))
    (subst (R (get_or xs (i + a) d)) (sym (get_or-between xs i j b d (omega (arith, inside, long)))) (all (i + a) (i + b) d (omega (arith, before)) (omega (arith, inside, long, within))))

-- The places of a window are distinct.
pub window_once : {P : Type 0} (slots : List (Option P)) (places : List ℕ) (window : Window) → IsLiveWindow slots places window → AllPairs (λ a b. a ≢ b) (places_in places window)
window_once slots places window was = AllPairs-between (λ a b. a ≢ b) places window.front window.back was.ranks.within was.ranks.distinct

-- One place of those ahead is passed.
-- The places ahead are distinct and have pairs.
-- The other places suffice for the iterator to go on.
module _ {P : Type 0} (slots : List (Option P)) (old new : List ℕ) (Stands : List (Option P) → Type 0) (stands : (s : List (Option P)) → All (IsLive s) new → Stands s) (once : AllPairs (λ a b. a ≢ b) old) (live : All (IsLive slots) old) where
  none_live : new ≡ [] → All (IsLive slots) new
  none_live e = subst (All (IsLive slots)) (sym e) (λ k d l. absurd (omega (arith, l)))

  stepped : (join : P → List P → List P) (p : ℕ) → IsLive slots p → ((x : P) → pair_at slots p ≡ Some x → pairs_at slots old ≡ join x (pairs_at slots new))
      → All (IsLive slots) new → All (λ q. q ≢ p) new → IsStep join Stands (λ s. pairs_at s new) slots (pairs_at slots old) (Some p)
  stepped join p has comes rest away = record {
    comes = by (pair_at slots p) refl has;
    stands_on = stands slots rest;
    may_lose = (stands (slice_set slots p None) (live_beside slots p (slice_set slots p None) refl new away rest), pairs_beside slots p (slice_set slots p None) refl new away);
  }
    where
      by : (o : Option P) → pair_at slots p ≡ o → IsSome o → IsSomeAnd o (λ x. pairs_at slots old ≡ join x (pairs_at slots new))
      by None e some = absurd (true≢false (sym some))
      by (Some x) e some = comes x e

  pub first_step : (r : Option ℕ) → TakesFirst (λ (p : ℕ). p) old r new → IsStep (λ p ps. p ∷ ps) Stands (λ s. pairs_at s new) slots (pairs_at slots old) r
  first_step None e = record { comes = (ap (pairs_at slots) e.0, ap (pairs_at slots) e.1); stands_on = stands slots (none_live e.1); may_lose = tt }
  first_step (Some p) e =
      stepped (λ p ps. p ∷ ps) p (All-first _ _ _ e (IsLive slots) live) (λ x is. pairs_at-first slots _ _ _ x e is) (All-behind _ _ _ e (IsLive slots) live)
      (λ k d l same. AllPairs-first _ _ _ e (λ a b. a ≢ b) once k d l (sym same))

  pub last_step : (r : Option ℕ) → TakesLast (λ (p : ℕ). p) old r new → IsStep (λ p ps. ps ++ p ∷ []) Stands (λ s. pairs_at s new) slots (pairs_at slots old) r
  last_step None e = record { comes = (ap (pairs_at slots) e.0, ap (pairs_at slots) e.1); stands_on = stands slots (none_live e.1); may_lose = tt }
  last_step (Some p) e =
      stepped (λ p ps. ps ++ p ∷ []) p (All-last _ _ _ e (IsLive slots) live) (λ x is. pairs_at-last slots _ _ _ x e is) (All-before _ _ _ e (IsLive slots) live)
      (AllPairs-last _ _ _ e (λ a b. a ≢ b) once)

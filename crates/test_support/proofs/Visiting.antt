-- Pairs that are visited one after another.
use Rattle.std.proofs.Common.{◌≡◌, ℕ, suc, zero, ◌+◌, ◌<◌, ◌≤◌, List, [], ◌∷◌, ◌++◌, length, take, drop, get_or, sym, ap, ◌∙◌, subst, arith}
use Rattle.std.specs.List.Sorted.{IsPermutation}
use Rattle.std.proofs.Math.Seq.{take-suc}
use Rattle.std.proofs.lemmas.Fn.{FoldsTo-push}
use Rattle.std.proofs.lemmas.List.{take_all}
use Rattle.std.proofs.lemmas.List.Sorted.{IsPermutation-refl}
use denote.Param.Members.{Mut}
use denote.Ref.{Bor}
use Rattle.bimap_base.specs.Kept.{TestedAt, MayTestPair}
use Rattle.bimap_any.specs.Visited.{VisitsInOrder, MayVisit, IsVisited}
use Rattle.test_support.proofs.Keeping.{pair_at}

module _ {F L R : Type 0} (g : Mut F (Bor L × (Bor R × Unit {0})) (Unit {0})) where
  cut : (pairs : List (L × R)) (k : ℕ) (p : L × R) → k < length pairs → p ≡ get_or pairs k p → pairs ≡ take k pairs ++ p ∷ drop (suc k) pairs
  cut [] k p inside value = absurd (omega arith)
  cut (x ∷ xs) zero p inside value = ap (λ (q : L × R). q ∷ xs) (sym value)
  cut (x ∷ xs) (suc k) p inside value = ap (λ zs. x ∷ zs) (cut xs k p (omega arith) value)

  -- the pairs before this one were visited, and f is the closure now
  module _ (first f : F) (pairs : List (L × R)) (k : ℕ) (calls : VisitsInOrder g first (take k pairs) f) where
    pub may : k < length pairs → (p : L × R) → p ≡ get_or pairs k p → MayVisit g first pairs → MayTestPair g f p
    may inside p value visit l r x y =
        let here = ap (λ (q : L × R). take k pairs ++ q ∷ drop (suc k) pairs) (sym (pair_at p l.now r.now x y)) in
        visit.at (take k pairs) f l r (drop (suc k) pairs) (subst (IsPermutation pairs) (cut pairs k p inside value ∙ here) (IsPermutation-refl pairs)) calls

    pub goes_on : k < length pairs → (p : L × R) → p ≡ get_or pairs k p → (f' : F) → TestedAt g f p tt f' → VisitsInOrder g first (take (k + 1) pairs) f'
    goes_on inside p value f' h =
        let one : k + 1 ≡ suc k = omega arith in
        let more : take (k + 1) pairs ≡ take k pairs ++ p ∷ [] = ap (λ (n : ℕ). take n pairs) one ∙ take-suc pairs k p inside ∙ ap (λ (q : L × R). take k pairs ++ q ∷ []) (sym value) in
        subst (λ z. VisitsInOrder g first z f') (sym more) (FoldsTo-push (λ state q next. TestedAt g state q tt next) first (take k pairs) f p f' calls h)

    pub ended : length pairs ≤ k → IsVisited g first pairs
    ended end = record {
      order = pairs;
      last = f;
      each_once = IsPermutation-refl pairs;
      calls = subst (λ z. VisitsInOrder g first z f) (take_all k pairs end) calls;
    }

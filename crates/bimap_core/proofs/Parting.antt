-- Pairs that are tested one after another. Those with one result go to an outlet.
use Rattle.std.proofs.Common.{◌≡◌, ℕ, ◌+◌, ◌≤◌, Bool, true, false, List, [], ◌∷◌, ◌++◌, length, refl, sym, ap, ◌∙◌, subst, arith}
use Rattle.std.specs.Prelude.{not}
use Rattle.std.specs.List.{FoldsTo}
use Rattle.std.proofs.lemmas.Fn.{FoldsTo-push}
use denote.Param.Members.{Mut}
use denote.Ref.{Bor}
use Rattle.bimap_base.specs.Kept.{TestedAt, TestsInOrder}
use Rattle.bimap_any.proofs.Testing.{tests_push, true_push, false_push}
use Rattle.bimap_core.specs.Partition.{answered_false, answered, IsPartition}

module _ {F L R : Type 0} (g : Mut F (Bor L × (Bor R × Unit {0})) Bool) where
  false_more : (f : F) (ps : List (L × R)) (bs : List Bool) (m : F) (p : L × R) → TestsInOrder g f ps bs m → answered_false g (ps ++ p ∷ []) (bs ++ false ∷ []) ≡ answered_false g ps bs ++ p ∷ []
  false_more f [] [] m p h = refl
  false_more f [] (c ∷ bs) m p h = absurd h
  false_more f (q ∷ ps) [] m p h = absurd h
  false_more f (q ∷ ps) (true ∷ bs) m p h = false_more h.0 ps bs m p h.2
  false_more f (q ∷ ps) (false ∷ bs) m p h = ap (λ xs. q ∷ xs) (false_more h.0 ps bs m p h.2)

  false_same : (f : F) (ps : List (L × R)) (bs : List Bool) (m : F) (p : L × R) → TestsInOrder g f ps bs m → answered_false g (ps ++ p ∷ []) (bs ++ true ∷ []) ≡ answered_false g ps bs
  false_same f [] [] m p h = refl
  false_same f [] (c ∷ bs) m p h = absurd h
  false_same f (q ∷ ps) [] m p h = absurd h
  false_same f (q ∷ ps) (true ∷ bs) m p h = false_same h.0 ps bs m p h.2
  false_same f (q ∷ ps) (false ∷ bs) m p h = ap (λ xs. q ∷ xs) (false_same h.0 ps bs m p h.2)

  -- A result adds its pair to the pairs with that result, and leaves the other pairs as they are.
  more : (b : Bool) (f : F) (ps : List (L × R)) (bs : List Bool) (m : F) (p : L × R) → TestsInOrder g f ps bs m → answered g b (ps ++ p ∷ []) (bs ++ b ∷ []) ≡ answered g b ps bs ++ p ∷ []
  more true f ps bs m p h = true_push g f ps bs m p h
  more false f ps bs m p h = false_more f ps bs m p h

  same : (b : Bool) (f : F) (ps : List (L × R)) (bs : List Bool) (m : F) (p : L × R) → TestsInOrder g f ps bs m → answered g b (ps ++ p ∷ []) (bs ++ not b ∷ []) ≡ answered g b ps bs
  same true f ps bs m p h = false_push g f ps bs m p h
  same false f ps bs m p h = false_same f ps bs m p h

  same_not : (b : Bool) (f : F) (ps : List (L × R)) (bs : List Bool) (m : F) (p : L × R) → TestsInOrder g f ps bs m → answered g (not b) (ps ++ p ∷ []) (bs ++ b ∷ []) ≡ answered g (not b) ps bs
  same_not true f ps bs m p h = false_same f ps bs m p h
  same_not false f ps bs m p h = false_push g f ps bs m p h

  none : (b : Bool) → answered g b [] [] ≡ []
  none true = refl
  none false = refl

  module _ {S : Type 0} (has_room : S → ℕ → Type 0) (receives : S → L × R → S → Type 0) (goes : Bool) where
    -- `f` is the closure after it was called on the tested pairs.
    -- The removed pairs are in the outlet, which has room for the rest.
    -- The other pairs were kept.
    pub record IsParted (first f : F) (from to : S) (tested rest kept : List (L × R)) : Type 0 where
      pub answers : List Bool
      pub calls : TestsInOrder g first tested answers f
      pub gone : FoldsTo receives from (answered g goes tested answers) to
      pub left : kept ≡ answered g (not goes) tested answers
      pub room : (n : ℕ) → n ≤ length rest → has_room to n

    pub begun : (f : F) (from : S) (rest : List (L × R)) → ((n : ℕ) → n ≤ length rest → has_room from n) → IsParted f f from from [] rest []
    begun f from rest room = record { answers = []; calls = refl; gone = subst (λ xs. FoldsTo receives from xs from) (sym (none goes)) refl; left = sym (none (not goes)); room = room }

    -- The same statement about equal lists.
    pub of_same : (first f : F) (from to : S) {tested tested' rest rest' kept kept' : List (L × R)} → tested ≡ tested' → rest ≡ rest' → kept ≡ kept' → IsParted first f from to tested rest kept → IsParted first f from to tested' rest' kept'
    of_same first f from to {tested} {tested'} {rest} {rest'} {kept} {kept'} t r k h =
        subst (λ z. IsParted first f from to z rest' kept') t (subst (λ z. IsParted first f from to tested z kept') r (subst (λ z. IsParted first f from to tested rest z) k h))

    module _ (first f : F) (from to : S) (tested rest kept : List (L × R)) (p : L × R) (h : IsParted first f from to tested (p ∷ rest) kept) where
      -- The outlet has room for the next pair.
      pub next : has_room to 1
      next = h.room 1 (omega arith)

      pub stays : (f' : F) → TestedAt g f p (not goes) f' → IsParted first f' from to (tested ++ p ∷ []) rest (kept ++ p ∷ [])
      stays f' t = record {
        answers = h.answers ++ not goes ∷ [];
        calls = tests_push g first tested h.answers f p (not goes) f' h.calls t;
        gone = subst (λ xs. FoldsTo receives from xs to) (sym (same goes first tested h.answers f p h.calls)) h.gone;
        left = ap (λ xs. xs ++ p ∷ []) h.left ∙ sym (more (not goes) first tested h.answers f p h.calls);
        room = λ n fits. h.room n (omega arith);
      }

      pub goes_out : (f' : F) → TestedAt g f p goes f' → (to' : S) → receives to p to' → ((n : ℕ) → has_room to (1 + n) → has_room to' n) → IsParted first f' from to' (tested ++ p ∷ []) rest kept
      goes_out f' t to' received fewer = record {
        answers = h.answers ++ goes ∷ [];
        calls = tests_push g first tested h.answers f p goes f' h.calls t;
        gone = subst (λ xs. FoldsTo receives from xs to') (sym (more goes first tested h.answers f p h.calls)) (FoldsTo-push receives from (answered g goes tested h.answers) to p to' h.gone received);
        left = h.left ∙ sym (same_not goes first tested h.answers f p h.calls);
        room = λ n fits. fewer n (h.room (1 + n) (omega arith));
      }

    pub all_tested : (first f : F) (from to : S) (tested rest kept : List (L × R)) → IsParted first f from to tested rest kept → IsPartition g receives goes first tested kept from to
    all_tested first f from to tested rest kept h = record { answers = h.answers; last = f; calls = h.calls; gone = h.gone; kept = h.left }

-- Pairs that are tested one after another.
use Rattle.std.proofs.Common.{◌≡◌, Bool, true, false, List, [], ◌∷◌, ◌++◌, refl, sym, ap, subst}
use denote.Param.Members.{Mut}
use denote.Ref.{Bor}
use Rattle.bimap_base.specs.Kept.{TestedAt, TestsInOrder, answered_true}

module _ {F L R : Type 0} (g : Mut F (Bor L × (Bor R × Unit {0})) Bool) where
  pub tests_push : (f : F) (ps : List (L × R)) (bs : List Bool) (m : F) (p : L × R) (b : Bool) (t : F) → TestsInOrder g f ps bs m → TestedAt g m p b t → TestsInOrder g f (ps ++ p ∷ []) (bs ++ b ∷ []) t
  tests_push f [] [] m p b t h k = (t, subst (λ (x : F). TestedAt g x p b t) (sym h) k, refl)
  tests_push f [] (c ∷ bs) m p b t h k = absurd h
  tests_push f (q ∷ ps) [] m p b t h k = absurd h
  tests_push f (q ∷ ps) (c ∷ bs) m p b t h k = (h.0, h.1, tests_push h.0 ps bs m p b t h.2 k)

  pub true_push : (f : F) (ps : List (L × R)) (bs : List Bool) (m : F) (p : L × R) → TestsInOrder g f ps bs m → answered_true g (ps ++ p ∷ []) (bs ++ true ∷ []) ≡ answered_true g ps bs ++ p ∷ []
  true_push f [] [] m p h = refl
  true_push f [] (c ∷ bs) m p h = absurd h
  true_push f (q ∷ ps) [] m p h = absurd h
  true_push f (q ∷ ps) (true ∷ bs) m p h = ap (λ xs. q ∷ xs) (true_push h.0 ps bs m p h.2)
  true_push f (q ∷ ps) (false ∷ bs) m p h = true_push h.0 ps bs m p h.2

  pub false_push : (f : F) (ps : List (L × R)) (bs : List Bool) (m : F) (p : L × R) → TestsInOrder g f ps bs m → answered_true g (ps ++ p ∷ []) (bs ++ false ∷ []) ≡ answered_true g ps bs
  false_push f [] [] m p h = refl
  false_push f [] (c ∷ bs) m p h = absurd h
  false_push f (q ∷ ps) [] m p h = absurd h
  false_push f (q ∷ ps) (true ∷ bs) m p h = ap (λ xs. q ∷ xs) (false_push h.0 ps bs m p h.2)
  false_push f (q ∷ ps) (false ∷ bs) m p h = false_push h.0 ps bs m p h.2

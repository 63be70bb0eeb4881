-- A closure that is called on each pair and keeps its state.
use Rattle.std.proofs.Common.{◌≡◌, ◌↔◌, ◌⊎◌, inl, inr, Bool, true, false, List, [], ◌∷◌, ◌++◌, refl, sym, ap, ◌∙◌, subst}
use Rattle.std.specs.Prelude.{Contains}
use Rattle.std.proofs.lemmas.List.Sorted.{Contains-permutation, IsPermutation-sym}
use Rattle.std.proofs.lemmas.List.Elements.{Contains-append_right}
use denote.Param.Members.{Mut, Shared, Called}
use Rattle.bimap.specs.Test.{Answers, IsDecided}
use denote.Ref.{Bor}
use Rattle.bimap_base.specs.Kept.{TestedAt, TestsInOrder, MayTest, answered_true, IsKept}
use Rattle.bimap_base.proofs.Members.{head_in, more_in, cases_in, none_in}

module _ {F L R : Type 0} (g : Mut F (Bor L × (Bor R × Unit {0})) Bool) (I : F → Type 0) (keeps : (s : F) (a : Bor L × (Bor R × Unit {0})) (b : Bool) (t : F) → I s → Called g s a b t → I t) where
  kept_along : (ps : List (L × R)) (bs : List Bool) (s t : F) → I s → TestsInOrder g s ps bs t → I t
  kept_along [] [] s t i e = subst I e i
  kept_along [] (b ∷ bs) s t i e = absurd e
  kept_along (p ∷ ps) [] s t i e = absurd e
  kept_along (p ∷ ps) (b ∷ bs) s t i e = kept_along ps bs e.0 t (keeps s _ b e.0 i e.1.called) e.2

  -- A closure may test each contained pair if it may do so in each state that its calls preserve.
  pub MayTest_by : (held : List (L × R)) (f : F) → I f → ((s : F) (l : Bor L) (r : Bor R) → I s → Contains held (l.now, r.now) → g.pre s (l, (r, tt))) → MayTest g f held
  MayTest_by held f i asks = record {
    at = λ ps bs later l r rest all e.
        asks later l r (kept_along ps bs f later i e)
        (Contains-permutation (ps ++ (l.now, r.now) ∷ rest) held (l.now, r.now) (IsPermutation-sym held (ps ++ (l.now, r.now) ∷ rest) all)
        (Contains-append_right ps ((l.now, r.now) ∷ rest) (l.now, r.now) (head_in (l.now, r.now) rest)));
  }

  module _ (Test : L × R → Bool → Type 0) (says : (s : F) (l : Bor L) (r : Bor R) (b : Bool) (t : F) → I s → Called g s (l, (r, tt)) b t → Test (l.now, r.now) b) where
    says_at : (s : F) (p : L × R) (b : Bool) (t : F) → I s → TestedAt g s p b t → Test p b
    says_at s p b t i e = subst (λ (q : L × R). Test q b) (ap (λ (x : L). (x, e.right.now)) e.shows_left ∙ ap (λ (y : R). (p.0, y)) e.shows_right) (says s e.left e.right b t i e.called)

    answered_from : (ps : List (L × R)) (bs : List Bool) (s t : F) → I s → TestsInOrder g s ps bs t → (q : L × R) → Contains (answered_true g ps bs) q → Contains ps q × Test q true
    answered_from [] bs s t i e q m = none_in q m
    answered_from (p ∷ ps) [] s t i e q m = absurd e
    answered_from (p ∷ ps) (true ∷ bs) s t i e q m =
        elim (cases_in p (answered_true g ps bs) q m) [
          | inl w ↦ (subst (Contains (p ∷ ps)) w (head_in p ps), subst (λ x. Test x true) w (says_at s p true e.0 i e.1))
          | inr w ↦ let n = answered_from ps bs e.0 t (keeps s _ true e.0 i e.1.called) e.2 q w in (more_in p ps q n.0, n.1)
        ]
    answered_from (p ∷ ps) (false ∷ bs) s t i e q m =
        let n = answered_from ps bs e.0 t (keeps s _ false e.0 i e.1.called) e.2 q m in (more_in p ps q n.0, n.1)

    answered_to : (ps : List (L × R)) (bs : List Bool) (s t : F) → I s → TestsInOrder g s ps bs t → (q : L × R) → Contains ps q → Contains (answered_true g ps bs) q ⊎ Test q false
    answered_to [] bs s t i e q m = none_in q m
    answered_to (p ∷ ps) [] s t i e q m = absurd e
    answered_to (p ∷ ps) (true ∷ bs) s t i e q m =
        elim (cases_in p ps q m) [
          | inl w ↦ inl (subst (Contains (p ∷ answered_true g ps bs)) w (head_in p (answered_true g ps bs)))
          | inr w ↦
              elim (answered_to ps bs e.0 t (keeps s _ true e.0 i e.1.called) e.2 q w) [
                | inl n ↦ inl (more_in p (answered_true g ps bs) q n)
                | inr n ↦ inr n
              ]
        ]
    answered_to (p ∷ ps) (false ∷ bs) s t i e q m =
        elim (cases_in p ps q m) [
          | inl w ↦ inr (subst (λ x. Test x false) w (says_at s p false e.0 i e.1))
          | inr w ↦ answered_to ps bs e.0 t (keeps s _ false e.0 i e.1.called) e.2 q w
        ]

    -- The kept pairs are those on which the test does not return `false`.
    pub IsKept-by : (f : F) (held left : List (L × R)) → I f → IsKept g f held left → ((p : L × R) → Contains held p → Test p true → Test p false → ⊥) → (p : L × R) → Contains left p ↔ (Contains held p × (Test p false → ⊥))
    IsKept-by f held left i k one p = (
      λ m. let n = answered_from k.order k.answers f k.last i k.calls p ((k.kept p).0 m) in
          let h = Contains-permutation k.order held p (IsPermutation-sym held k.order k.each_once) n.0 in
          (h, one p h n.1),
      λ m. elim (answered_to k.order k.answers f k.last i k.calls p (Contains-permutation held k.order p k.each_once m.0)) [
        | inl n ↦ (k.kept p).1 n
        | inr n ↦ absurd (m.1 n)
      ],
    )

module _ {F K L R : Type 0} (g : Shared F (Bor K × (Bor L × (Bor R × Unit {0}))) Bool) where
  pub may_call : (f f' : F) (k : K) (key : Bor K) (l : Bor L) (r : Bor R) → f' ≡ f → key.now ≡ k → IsDecided g f k (l.now, r.now) → g.pre f' (key, (l, (r, tt)))
  may_call f f' k key l r e h a = subst (λ (x : F). g.pre x (key, (l, (r, tt)))) (sym e) (a.callable key l r h refl refl)

  pub answers_as : (f f' : F) (k : K) (key : Bor K) (l : Bor L) (r : Bor R) (b : Bool) → f' ≡ f → key.now ≡ k → g.post f' (key, (l, (r, tt))) b → Answers g f k (l.now, r.now) b
  answers_as f f' k key l r b e h p = record { key = key; left = l; right = r; shows_key = h; shows_left = refl; shows_right = refl; returns = subst (λ (x : F). g.post x (key, (l, (r, tt))) b) e p }

-- The survivors of a history that grows at its end.
use Rattle.std.proofs.Common.{◌≡◌, ◌↔◌, ◌⊎◌, inl, inr, Bool, true, List, [], ◌∷◌, ◌++◌, refl, sym, ap, ◌∙◌, subst, true≢false, append_assoc}
use Rattle.std.proofs.lemmas.List.Elements.{Contains-append_left, Contains-append_right, Contains-append_cases, Contains-push, Contains-push_cases}
use Rattle.std.proofs.lemmas.Bool.{false_from_ne_true}
use Rattle.bimap_base.specs.Sets.{shares, IsWithPut}
use Rattle.bimap_any.specs.Survivors.{IsUntouched, Survives, PutsItself, TouchesSharing, AreSurvivors}
use Rattle.bimap_base.proofs.Members.{none_in}

module _ {X : Type 0} where
  -- If two joined lists are split at an element, the element is in one of the two lists.
  pub split_append : (g h before later : List X) (e : X) → g ++ h ≡ before ++ e ∷ later → ((rest : List X) × (g ≡ before ++ e ∷ rest) × (later ≡ rest ++ h)) ⊎ ((rest : List X) × (before ≡ g ++ rest) × (h ≡ rest ++ e ∷ later))
  split_append [] h before later e q = inr (before, refl, q)
  split_append (y ∷ g) h [] later e q = inl (g, cc, cc)
  split_append (y ∷ g) h (b ∷ before) later e q =
      elim (split_append g h before later e (cc)) [
        | inl s ↦ inl (s.0, cc, s.2)
        | inr s ↦ inr (s.0, cc, s.2)
      ]

  -- If the second list has only one element, the split is at that element or before it.
  pub split_push : (h before later : List X) (e x : X) → h ++ x ∷ [] ≡ before ++ e ∷ later → ((later ≡ []) × (h ≡ before) × (x ≡ e)) ⊎ ((rest : List X) × (later ≡ rest ++ x ∷ []) × (h ≡ before ++ e ∷ rest))
  split_push [] [] later e x q = inl (cc, refl, cc)
  split_push (y ∷ h) [] later e x q = inr (h, cc, cc)
  split_push [] (b ∷ []) later e x q = absurd (cc)
  split_push [] (b ∷ (d ∷ before)) later e x q = absurd (cc)
  split_push (y ∷ h) (b ∷ before) later e x q =
      elim (split_push h before later e x (cc)) [
        | inl s ↦ inl (s.0, cc, s.2)
        | inr s ↦ inr (s.0, s.1, cc)
      ]

  pub not_split : (before later : List X) (e : X) {A : Type 0} → [] ≡ before ++ e ∷ later → A
  not_split [] later e q = absurd (cc)
  not_split (b ∷ before) later e q = absurd (cc)

module _ {E X : Type 0} (Puts Touches : E → X → Type 0) where
  untouched_none : (x : X) → IsUntouched Puts Touches [] x
  untouched_none x = λ e m. none_in e m

  untouched_both : (g h : List E) (x : X) → IsUntouched Puts Touches g x → IsUntouched Puts Touches h x → IsUntouched Puts Touches (g ++ h) x
  untouched_both g h x u v = λ e m t. elim (Contains-append_cases g h e m) [ inl n ↦ u e n t | inr n ↦ v e n t ]

  untouched_first : (g h : List E) (x : X) → IsUntouched Puts Touches (g ++ h) x → IsUntouched Puts Touches g x
  untouched_first g h x u = λ e m. u e (Contains-append_left g h e m)

  untouched_second : (g h : List E) (x : X) → IsUntouched Puts Touches (g ++ h) x → IsUntouched Puts Touches h x
  untouched_second g h x u = λ e m. u e (Contains-append_right g h e m)

  untouched_one : (e : E) (x : X) → (Touches e x → ⊥) → IsUntouched Puts Touches (e ∷ []) x
  untouched_one e x n = λ f m t. elim (Contains-push_cases [] e f m) [ inl k ↦ none_in f k | inr w ↦ n (subst (λ d. Touches d x) (sym w) t) ]

  -- The survivors of an empty history.
  pub Survives_none : (S : X → Type 0) (x : X) → S x ↔ Survives Puts Touches S [] x
  Survives_none S x = (λ m. inl (m, untouched_none x), λ s. elim s [ inl w ↦ w.0 | inr w ↦ not_split w.before w.later w.entry w.split ])

  -- The survivors of two histories are what survives the second history of the survivors of the first.
  pub Survives_append : (S : X → Type 0) (g h : List E) (x : X) → Survives Puts Touches S (g ++ h) x ↔ Survives Puts Touches (λ y. Survives Puts Touches S g y) h x
  Survives_append S g h x = (to, from)
    where
      to : Survives Puts Touches S (g ++ h) x → Survives Puts Touches (λ y. Survives Puts Touches S g y) h x
      to (inl s) = inl (inl (s.0, untouched_first g h x s.1), untouched_second g h x s.1)
      to (inr s) =
          elim (split_append g h s.before s.later s.entry s.split) [
            | inl w ↦
                let u : IsUntouched Puts Touches (w.0 ++ h) x = subst (λ l. IsUntouched Puts Touches l x) w.2 s.untouched in
                inl (inr (record { before = s.before; entry = s.entry; later = w.0; split = w.1; puts = s.puts; untouched = untouched_first w.0 h x u }), untouched_second w.0 h x u)
            | inr w ↦ inr (record { before = w.0; entry = s.entry; later = s.later; split = w.2; puts = s.puts; untouched = s.untouched })
          ]

      from : Survives Puts Touches (λ y. Survives Puts Touches S g y) h x → Survives Puts Touches S (g ++ h) x
      from (inl (inl s, u)) = inl (s.0, untouched_both g h x s.1 u)
      from (inl (inr s, u)) = inr (record { before = s.before; entry = s.entry; later = s.later ++ h; split = ap (λ l. l ++ h) s.split ∙ append_assoc s.before (s.entry ∷ s.later) h; puts = s.puts; untouched = untouched_both s.later h x s.untouched u })
      from (inr s) = inr (record { before = g ++ s.before; entry = s.entry; later = s.later; split = ap (λ l. g ++ l) s.split ∙ sym (append_assoc g s.before (s.entry ∷ s.later)); puts = s.puts; untouched = s.untouched })

  -- The survivors of one entry.
  pub Survives_one : (S : X → Type 0) (e : E) (x : X) → Survives Puts Touches S (e ∷ []) x ↔ (Puts e x ⊎ (S x × (Touches e x → ⊥)))
  Survives_one S e x = (to, from)
    where
      last : (before later : List E) (f : E) → e ∷ [] ≡ before ++ f ∷ later → Puts f x → Puts e x
      last before later f q p =
          elim (split_push [] before later f e q) [
            | inl w ↦ subst (λ d. Puts d x) (sym w.2) p
            | inr w ↦ not_split before w.0 f w.2
          ]

      to : Survives Puts Touches S (e ∷ []) x → Puts e x ⊎ (S x × (Touches e x → ⊥))
      to (inl s) = inr (s.0, λ t. s.1 e (Contains-push [] e) t)
      to (inr s) = inl (last s.before s.later s.entry s.split s.puts)

      from : Puts e x ⊎ (S x × (Touches e x → ⊥)) → Survives Puts Touches S (e ∷ []) x
      from (inl p) = inr (record { before = []; entry = e; later = []; split = refl; puts = p; untouched = untouched_none x })
      from (inr s) = inl (s.0, untouched_one e x s.1)

  -- The survivors depend only on the members of the first set.
  pub Survives_along : (S T : X → Type 0) (h : List E) (x : X) → (S x ↔ T x) → Survives Puts Touches S h x ↔ Survives Puts Touches T h x
  Survives_along S T h x same = (
    λ s. elim s [ inl w ↦ inl (same.0 w.0, w.1) | inr w ↦ inr w ],
    λ s. elim s [ inl w ↦ inl (same.1 w.0, w.1) | inr w ↦ inr w ],
  )

  -- The survivors after one more entry.
  pub survivors_push : (S T U : X → Type 0) (h : List E) (e : E) → ((x : X) → T x ↔ Survives Puts Touches S h x) → ((x : X) → U x ↔ (Puts e x ⊎ (T x × (Touches e x → ⊥)))) → (x : X) → U x ↔ Survives Puts Touches S (h ++ e ∷ []) x
  survivors_push S T U h e are step x =
      let one = Survives_one (λ y. Survives Puts Touches S h y) e x in
      let all = Survives_append S h (e ∷ []) x in (
        λ u. all.1 (one.1 (elim ((step x).0 u) [ inl p ↦ inl p | inr w ↦ inr ((are x).0 w.0, w.1) ])),
        λ s. (step x).1 (elim (one.0 (all.0 s)) [ inl p ↦ inl p | inr w ↦ inr ((are x).1 w.0, w.1) ]),
      )

module _ {L R : Type 0} (same_left : L → L → Bool) (same_right : R → R → Bool) where
  -- An inserted pair touches the pairs that share a value with it.
  pub put_touches : (S T : L × R → Type 0) (new : L × R) → IsWithPut same_left same_right S new T → (p : L × R) → T p ↔ ((p ≡ new) ⊎ (S p × (shares same_left same_right p new ≡ true → ⊥)))
  put_touches S T new put p = (
    λ t. elim ((put p).0 t) [ inl e ↦ inl e | inr w ↦ inr (w.0, λ q. absurd (true≢false (sym q ∙ w.1))) ],
    λ t. (put p).1 (elim t [ inl e ↦ inl e | inr w ↦ inr (w.0, false_from_ne_true _ w.1) ]),
  )

  pub items_none : (S : L × R → Type 0) → AreSurvivors same_left same_right S [] S
  items_none S = Survives_none PutsItself (TouchesSharing same_left same_right) S

  -- The survivors after one more item.
  pub items_push : (S T U : L × R → Type 0) (items : List (L × R)) (new : L × R) → AreSurvivors same_left same_right S items T → IsWithPut same_left same_right T new U → AreSurvivors same_left same_right S (items ++ new ∷ []) U
  items_push S T U items new are put =
      survivors_push PutsItself (TouchesSharing same_left same_right) S T U items new are (put_touches T U new put)

-- An insertion is undone.
use Rattle.std.proofs.Common.{◌≡◌, inl, inr, suc, ◌≤◌, Bool, true, false, List, ◌∷◌, length, refl, sym, ap, ◌∙◌, subst, arith, true≢false}
use Rattle.std.specs.Prelude.{Contains}
use Rattle.std.specs.Cmp.{IsEquivalence}
use Rattle.std.proofs.lemmas.Bool.{or_left, or_right, or_parts, false_from_ne_true, cases_Bool}
use Rattle.bimap_base.specs.Sets.{shares, IsApart, IsSameSet, IsWithPut}
use Rattle.bimap_base.specs.Answer.{IsAnswer, IsNamed, IsBoth, AreBothStruck}
use Rattle.bimap_base.specs.Undoing.{AreNamedApart, IsUndoable, IsUndone, IsInserting}
use Rattle.bimap_base.specs.declared.overwritten.Overwritten.{Overwritten}
use Rattle.bimap_base.specs.declared.overwritten.Overwritten.TheVariants.{Neither, Left, Right, Pair, Both}
use Rattle.bimap_base.proofs.Members.{cases_in}
use Rattle.bimap_base.proofs.Apart.{apart_more, apart_unique, shares_itself, pull, no_longer}

module _ {L R : Type 0} (same_left : L → L → Bool) (same_right : R → R → Bool) (lefts : IsEquivalence same_left) (rights : IsEquivalence same_right) where
  module _ (S : L × R → Type 0) (new : L × R) where
    struck_by : (p q : L × R) → S p → shares same_left same_right p new ≡ true → q ≡ p → S q × (shares same_left same_right q new ≡ true)
    struck_by p q m e w = subst (λ z. S z × (shares same_left same_right z new ≡ true)) (sym w) (m, e)

    -- A pair that the answer names was a member, and shares a value with the new pair.
    pub named_struck : (answer : Overwritten L R) (q : L × R) → IsAnswer same_left same_right S new answer → IsNamed answer q → S q × (shares same_left same_right q new ≡ true)
    named_struck Neither q h w = absurd w
    named_struck (Left l r) q h w = struck_by (l, r) q h.0.member (or_left (same_left l new.0) (same_right r new.1) h.1) w
    named_struck (Right l r) q h w = struck_by (l, r) q h.0.member (or_right (same_left l new.0) (same_right r new.1) h.2) w
    named_struck (Pair l r) q h w = struck_by (l, r) q h.0.member (or_left (same_left l new.0) (same_right r new.1) h.1) w
    named_struck (Both p s) q h (inl w) = struck_by p q h.first (or_left (same_left p.0 new.0) (same_right p.1 new.1) h.by_left) w
    named_struck (Both p s) q h (inr w) = struck_by s q h.second (or_right (same_left s.0 new.0) (same_right s.1 new.1) h.by_right) w

    -- Each member that shares a value with the new pair is named by the answer.
    pub struck_named : (answer : Overwritten L R) (q : L × R) → IsAnswer same_left same_right S new answer → S q → shares same_left same_right q new ≡ true → IsNamed answer q
    struck_named Neither q h m e = absurd (true≢false (sym e ∙ h q m))
    struck_named (Left l r) q h m e = h.0.only q m e
    struck_named (Right l r) q h m e = h.0.only q m e
    struck_named (Pair l r) q h m e = h.0.only q m e
    struck_named (Both p s) q h m e = h.only q m e

  named_apart : (A : List (L × R)) (new : L × R) (answer : Overwritten L R) → IsApart same_left same_right A → IsAnswer same_left same_right (Contains A) new answer → AreNamedApart same_left same_right answer
  named_apart A new Neither h k = tt
  named_apart A new (Left l r) h k = tt
  named_apart A new (Right l r) h k = tt
  named_apart A new (Pair l r) h k = tt
  named_apart A new (Both p q) h k = false_from_ne_true (shares same_left same_right p q) (λ e. k.two (apart_unique same_left same_right lefts rights A p q h k.first k.second e))

  module _ (A B : List (L × R)) (left : L) (answer : Overwritten L R) (apart : IsApart same_left same_right A) (i : IsInserting same_left same_right A left answer B) where
    -- The insertion can be undone.
    pub inserting_undoable : IsUndoable same_left same_right (Contains B) left answer
    inserting_undoable = record {
      pair = i.pair;
      member = (i.put i.pair).1 (inl refl);
      by_left = i.by_left;
      alone = λ q s o m h.
          elim ((i.put s).0 m) [
            | inl w ↦ w
            | inr w ↦
                let v = named_struck (Contains A) i.pair answer q i.is_answer o in
                absurd (true≢false (sym v.1 ∙ ap (λ z. shares same_left same_right z i.pair) (apart_unique same_left same_right lefts rights A q s apart v.0 w.0 h) ∙ w.1))
          ];
      two = named_apart A i.pair answer apart i.is_answer;
    }

    -- After the undo the bimap contains what it contained before the insertion.
    pub undone_same : (T : L × R → Type 0) → IsUndone same_left same_right (Contains B) left answer T → IsSameSet (Contains A) T
    undone_same T u q = (
      λ m. (u q).1 (elim (cases_Bool (shares same_left same_right q i.pair)) [
        | inl s ↦ inl (struck_named (Contains A) i.pair answer q i.is_answer m s)
        | inr s ↦ inr ((i.put q).1 (inr (m, s)), lefts.symm q.0 left ∙ sym (lefts.congr i.pair.0 left q.0 i.by_left) ∙ lefts.symm i.pair.0 q.0 ∙ (or_parts (same_left q.0 i.pair.0) (same_right q.1 i.pair.1) s).0)
      ]),
      λ m. elim ((u q).0 m) [
        | inl o ↦ (named_struck (Contains A) i.pair answer q i.is_answer o).0
        | inr w ↦
            elim ((i.put q).0 w.0) [
              | inl v ↦ absurd (true≢false (sym i.by_left ∙ ap (λ (z : L × R). same_left z.0 left) (sym v) ∙ w.1))
              | inr v ↦ v.0
            ]
      ],
    )

  -- An insertion that overwrites two pairs leaves one pair less.
  pub both_shorter : (A B : List (L × R)) (new p q : L × R) → IsApart same_left same_right A → IsApart same_left same_right B → AreBothStruck same_left same_right (Contains A) new p q → IsWithPut same_left same_right (Contains A) new (Contains B) → suc (length B) ≤ length A
  both_shorter A B new p q h k b put =
      let r = pull same_left same_right lefts rights B new k ((put new).1 (inl refl)) in
      let old : (s : L × R) → Contains r.rest s → Contains A s × (shares same_left same_right s new ≡ false) =
      λ s m. elim ((put s).0 (r.from s m).0) [
        | inl e ↦ absurd (true≢false (sym (shares_itself same_left same_right lefts rights new) ∙ ap (λ z. shares same_left same_right z new) (sym e) ∙ (r.from s m).1))
        | inr w ↦ w
      ] in
      let away : (x s : L × R) → Contains A x → shares same_left same_right x new ≡ true → Contains r.rest s → shares same_left same_right x s ≡ false =
      λ x s m e n. false_from_ne_true (shares same_left same_right x s) (λ f. true≢false (sym e ∙ ap (λ z. shares same_left same_right z new) (apart_unique same_left same_right lefts rights A x s h m (old s n).0 f) ∙ (old s n).1)) in
      let first : shares same_left same_right p new ≡ true = or_left (same_left p.0 new.0) (same_right p.1 new.1) b.by_left in
      let second : shares same_left same_right q new ≡ true = or_right (same_left q.0 new.0) (same_right q.1 new.1) b.by_right in
      let l = no_longer same_left same_right lefts rights (p ∷ (q ∷ r.rest)) A
      (apart_more same_left same_right p (q ∷ r.rest)
      (λ s n. elim (cases_in q r.rest s n) [
        | inl e ↦ false_from_ne_true (shares same_left same_right p s) (λ f. b.two (apart_unique same_left same_right lefts rights A p s h b.first (subst (Contains A) e b.second) f ∙ sym e))
        | inr j ↦ away p s b.first first j
      ])
      (apart_more same_left same_right q r.rest (λ s n. away q s b.second second n) r.apart))
      h
      (λ y n. elim (cases_in p (q ∷ r.rest) y n) [
        | inl e ↦ subst (Contains A) e b.first
        | inr j ↦ elim (cases_in q r.rest y j) [ inl e ↦ subst (Contains A) e b.second | inr i ↦ (old y i).0 ]
      ]) in
      omega (arith, l, r.long)

  -- An insertion of the left whose answer names two pairs leaves one pair less.
  pub inserting_shorter : (A B : List (L × R)) (left : L) (answer : Overwritten L R) → IsApart same_left same_right A → IsApart same_left same_right B → IsInserting same_left same_right A left answer B → IsBoth answer → suc (length B) ≤ length A
  inserting_shorter A B left (Both p q) h k i both = both_shorter A B i.pair p q h k i.is_answer i.put
  inserting_shorter A B left Neither h k i both = absurd both
  inserting_shorter A B left (Left l r) h k i both = absurd both
  inserting_shorter A B left (Right l r) h k i both = absurd both
  inserting_shorter A B left (Pair l r) h k i both = absurd both

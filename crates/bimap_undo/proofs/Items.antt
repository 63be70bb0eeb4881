-- What a map contains after items were inserted under a policy, as plain facts.
use Rattle.std.proofs.Common.{◌≡◌, ◌↔◌, ◌⊎◌, ◌∙◌, Bool, true, false, List, [], ◌∷◌, ◌++◌, get_or, inl, inr, refl, sym, ap, subst, arith, true≢false, append_assoc, append-nil, length-append}
use Rattle.std.specs.Prelude.{Contains}
use Rattle.std.specs.Cmp.{IsEquivalence}
use Rattle.std.proofs.lemmas.Bool.{cases_Bool, or_cases, or_from}
use Rattle.std.proofs.lemmas.List.{get_or_default}
use Rattle.std.proofs.lemmas.List.Elements.{Contains-append_left, Contains-append_right, Contains-push_cases}
use Rattle.std.proofs.lemmas.List.Quantifiers.{all_pairs_push}
use Rattle.bimap.specs.Sets.{shares, IsApart}
use Rattle.bimap.specs.Answer.{IsAllowed}
use Rattle.bimap.specs.Survivors.{Survives, PutsItself, TouchesSharing}
use Rattle.bimap.specs.Extension.{AreAllowed}
use Rattle.bimap.specs.Holding.{Holding}
use Rattle.bimap.specs.Types.{Policy, Refuse}
use Rattle.bimap.proofs.Apart.{shares_symm, shares_itself, no_longer}
use Rattle.bimap.proofs.Extending.{ArePutIn}
use Rattle.bimap.proofs.Members.{head_in, cases_in, none_in}
use Rattle.bimap.proofs.Survivors.{Survives_none, items_push}
use Rattle.bimap_undo.specs.AllOrNone.{AreHeldAfter}

module _ {X : Type 0} (test : X → Bool) where
  -- The last element that passes the test.
  record Last (xs : List X) : Type 0 where
    before : List X
    at : X
    later : List X
    split : xs ≡ before ++ at ∷ later
    passes : test at ≡ true
    none : (x : X) → Contains later x → test x ≡ false

  last : (xs : List X) → ((x : X) → Contains xs x → test x ≡ false) ⊎ Last xs
  last [] = inl (λ x m. none_in x m)
  last (x ∷ xs) =
      elim (last xs) [
        | inr w ↦ inr (record { before = x ∷ w.before; at = w.at; later = w.later; split = ap (λ ys. x ∷ ys) w.split; passes = w.passes; none = w.none })
        | inl none ↦
            elim (cases_Bool (test x)) [
              | inl e ↦ inr (record { before = []; at = x; later = xs; split = refl; passes = e; none = none })
              | inr e ↦ inl (λ y m. elim (cases_in x xs y m) [ inl s ↦ subst (λ z. test z ≡ false) s e | inr n ↦ none y n ])
            ]
      ]

module _ {L R : Type 0} (same_left : L → L → Bool) (same_right : R → R → Bool) where
  abbrev After : (L × R → Type 0) → List (L × R) → L × R → Type 0
  After S items p = Survives PutsItself (TouchesSharing same_left same_right) S items p

  -- What is contained after one more item.
  after_push : (S : L × R → Type 0) (before : List (L × R)) (x p : L × R) → ((p ≡ x) ⊎ (After S before p × (shares same_left same_right p x ≡ false))) ↔ After S (before ++ x ∷ []) p
  after_push S before x p =
      items_push same_left same_right S (After S before) (λ q. (q ≡ x) ⊎ (After S before q × (shares same_left same_right q x ≡ false))) before x (λ q. (λ s. s, λ s. s)) (λ q. (λ s. s, λ s. s)) p

  -- What is true of no items, and stays true after each allowed item, is true of all items.
  along : (S : L × R → Type 0) (policy : Policy) (P : List (L × R) → Type 0) → ((before : List (L × R)) (x : L × R) → IsAllowed same_left same_right (After S before) x policy → P before → P (before ++ x ∷ [])) → (before later : List (L × R)) → AreAllowed same_left same_right S (before ++ later) policy → P before → P (before ++ later)
  along S policy P step before [] are p = subst P (sym (append-nil before)) p
  along S policy P step before (x ∷ later) are p =
      let e = append_assoc before (x ∷ []) later in
      subst P e (along S policy P step (before ++ x ∷ []) later (subst (λ h. AreAllowed same_left same_right S h policy) (sym e) are) (step before x (are before x later refl) p))

  apart_push : (ps : List (L × R)) (x : L × R) → IsApart same_left same_right ps → ((q : L × R) → Contains ps q → shares same_left same_right q x ≡ false) → IsApart same_left same_right (ps ++ x ∷ [])
  apart_push ps x apart none =
      all_pairs_push (λ p q. shares same_left same_right p q ≡ false) ps x apart (λ k d inside. none (get_or ps k d) (k, inside, get_or_default ps k (get_or ps k d) d inside))

  -- A contained pair is an item or was contained before.
  only : (S : L × R → Type 0) (items : List (L × R)) (p : L × R) → After S items p → Contains items p ⊎ S p
  only S items p (inl s) = inr s.0
  only S items p (inr s) =
      inl (subst (Contains items) (sym s.puts) (subst (λ h. Contains h s.entry) (sym s.split) (Contains-append_right s.before (s.entry ∷ s.later) s.entry (head_in s.entry s.later))))

module _ {L R : Type 0} (same_left : L → L → Bool) (same_right : R → R → Bool) (lefts : IsEquivalence same_left) (rights : IsEquivalence same_right) where
  -- An item that shares a value with no other item is contained.
  lone : (S : L × R → Type 0) (items : List (L × R)) (p : L × R) → Contains items p → ((q : L × R) → Contains items q → shares same_left same_right q p ≡ true → q ≡ p) → After same_left same_right S items p
  lone S items p m alone =
      elim (last (λ q. shares same_left same_right p q) items) [
        | inl none ↦ absurd (true≢false (sym (shares_itself same_left same_right lefts rights p) ∙ none p m))
        | inr w ↦
            inr (record {
              before = w.before;
              entry = w.at;
              later = w.later;
              split = w.split;
              puts = sym (alone w.at (subst (λ h. Contains h w.at) (sym w.split) (Contains-append_right w.before (w.at ∷ w.later) w.at (head_in w.at w.later))) (shares_symm same_left same_right lefts rights w.at p ∙ w.passes));
              untouched = λ e n t. true≢false (sym t ∙ w.none e n);
            })
      ]

  module _ (old items : List (L × R)) (policy : Policy) (are : AreAllowed same_left same_right (Contains old) items policy) where
    -- Each value of one side stays contained, if an item overwrites a pair only if it has the same value on that side.
    parts_stay : {K : Type 0} (part : L × R → K) (same : K → K → Bool) → IsEquivalence same → ((T : L × R → Type 0) (x q : L × R) → IsAllowed same_left same_right T x policy → T q → shares same_left same_right q x ≡ true → same (part q) (part x) ≡ true) → (p : L × R) → Contains (old ++ items) p → (q : L × R) × After same_left same_right (Contains old) items q × (same (part q) (part p) ≡ true)
    parts_stay part same equal takes =
        along same_left same_right (Contains old) policy (λ h. (p : L × R) → Contains (old ++ h) p → (q : L × R) × After same_left same_right (Contains old) h q × (same (part q) (part p) ≡ true))
        (λ before x let_in had p m.
        let put = after_push same_left same_right (Contains old) before x in
        elim (Contains-push_cases (old ++ before) x p (subst (λ h. Contains h p) (sym (append_assoc old before (x ∷ []))) m)) [
          | inr e ↦ (x, (put x).0 (inl refl), subst (λ z. same (part x) (part z) ≡ true) e (equal.refl (part x)))
          | inl n ↦
              let w = had p n in
              elim (cases_Bool (shares same_left same_right w.0 x)) [
                | inl e ↦ (x, (put x).0 (inl refl), sym (equal.congr (part w.0) (part x) (part p) (takes _ x w.0 let_in w.1 e)) ∙ w.2)
                | inr e ↦ (w.0, (put w.0).0 (inr (w.1, e)), w.2)
              ]
        ])
        [] items are
        (λ p m. (p, (Survives_none PutsItself (TouchesSharing same_left same_right) (Contains old) p).0 (subst (λ h. Contains h p) (append-nil old) m), equal.refl (part p)))

    -- If the policy keeps both sides, all pairs stay and no two share a value.
    all_stay : policy.left ≡ Refuse → policy.right ≡ Refuse → IsApart same_left same_right old → ((p : L × R) → Contains (old ++ items) p → After same_left same_right (Contains old) items p) × IsApart same_left same_right (old ++ items)
    all_stay keeps_left keeps_right apart =
        along same_left same_right (Contains old) policy (λ h. ((p : L × R) → Contains (old ++ h) p → After same_left same_right (Contains old) h p) × IsApart same_left same_right (old ++ h))
        (λ before x let_in had.
        let none = λ (q : L × R) (m : After same_left same_right (Contains old) before q). or_from _ _ (let_in.left keeps_left q m) (let_in.right keeps_right q m) in
        let e = append_assoc old before (x ∷ []) in
        let put = after_push same_left same_right (Contains old) before x in (
          λ p m. elim (Contains-push_cases (old ++ before) x p (subst (λ h. Contains h p) (sym e) m)) [
            | inl n ↦ (put p).0 (inr (had.0 p n, none p (had.0 p n)))
            | inr s ↦ (put p).0 (inl (sym s))
          ],
          subst (IsApart same_left same_right) e (apart_push same_left same_right (old ++ before) x had.1 (λ q m. none q (had.0 q m))),
        ))
        [] items are
        (λ p m. (Survives_none PutsItself (TouchesSharing same_left same_right) (Contains old) p).0 (subst (λ h. Contains h p) (append-nil old) m), subst (IsApart same_left same_right) (sym (append-nil old)) apart)

  -- The plain facts of `AreHeldAfter`.
  pub held_after : (old : Holding L R) (items : List (L × R)) (policy : Policy) (new : Holding L R) → IsApart same_left same_right old.pairs → IsApart same_left same_right new.pairs → ArePutIn same_left same_right old items policy new → AreHeldAfter same_left same_right old.pairs items policy new.pairs
  held_after old items policy new apart apart_after are =
      let to = λ (p : L × R). (are.survivors p).1 in
      let from = λ (p : L × R) (m : Contains new.pairs p). only same_left same_right (Contains old.pairs) items p ((are.survivors p).0 m) in
      record {
        item = λ p m alone. to p (lone (Contains old.pairs) items p m alone);
        other = λ p m none. to p (inl (m, λ e n t. true≢false (sym t ∙ shares_symm same_left same_right lefts rights p e ∙ none e n)));
        only = from;
        at_most = are.no_longer;
        lefts = λ keeps p m.
            let w = parts_stay old.pairs items policy are.allowed (λ q. q.0) same_left lefts (λ T x q let_in m e. elim (or_cases _ _ e) [ inl l ↦ l | inr r ↦ absurd (true≢false (sym r ∙ let_in.right keeps q m)) ]) p m in
            (w.0, to w.0 w.1, w.2);
        rights = λ keeps p m.
            let w = parts_stay old.pairs items policy are.allowed (λ q. q.1) same_right rights (λ T x q let_in m e. elim (or_cases _ _ e) [ inr r ↦ r | inl l ↦ absurd (true≢false (sym l ∙ let_in.left keeps q m)) ]) p m in
            (w.0, to w.0 w.1, w.2);
        added = λ keeps_left keeps_right.
            let all = all_stay old.pairs items policy are.allowed keeps_left keeps_right apart in
            let into = λ (p : L × R) (m : Contains (old.pairs ++ items) p). to p (all.0 p m) in
            let least = no_longer same_left same_right lefts rights (old.pairs ++ items) new.pairs all.1 apart_after into in
            record {
              each = λ p m. into p (Contains-append_right old.pairs items p m);
              kept = λ p m. into p (Contains-append_left old.pairs items p m);
              count = omega (arith, least, are.no_longer, length-append old.pairs items);
            };
      }

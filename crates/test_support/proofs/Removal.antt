-- A pair that is taken out of pairs of which no two share.
use Rattle.std.proofs.Common.{◌≡◌, ◌↔◌, ◌⊎◌, inl, inr, ℕ, suc, zero, ◌+◌, ◌<◌, ◌≤◌, ◌||◌, Bool, true, false, not, List, [], ◌∷◌, ◌++◌, length, take, drop, get_or, Some, None, refl, sym, ap, ◌∙◌, subst, arith, rules, tests, true≢false}
use Rattle.std.specs.Prelude.{Contains, vec_len, vec_capacity}
use Rattle.std.specs.Global.{Vec}
use Rattle.std.specs.List.{position, position_or_len}
use Rattle.std.proofs.lemmas.Bool.Decides.{nat_tests}
use Rattle.std.proofs.lemmas.List.Sums.{prefix_len_passes}
use Rattle.std.proofs.lemmas.List.Quantifiers.{position-Some}
use Rattle.std.specs.Cmp.{IsEquivalence}
use Rattle.std.proofs.lemmas.List.Elements.{Contains-append_left, Contains-append_right, Contains-append_cases, Contains-push_cases, Contains-push}
use Rattle.test_support.specs.Plain.{IsCleared, IsTaken}
use Rattle.bimap_base.specs.Sets.{shares, NoneShares, IsApart, IsWithPut, IsWithoutLeft, IsWithoutRight, LacksLeft, LacksRight}
use Rattle.bimap_base.specs.Answer.{IsOnlyStruck, AreBothStruck}
use Rattle.std.proofs.lemmas.Bool.{or_parts, or_from, or_right}
use Rattle.bimap_base.proofs.Members.{head_in, more_in, cases_in, none_in}
use Rattle.bimap_base.proofs.Apart.{apart_head, apart_tail, apart_more, apart_none, apart_unique, shares_symm}

module _ {X : Type 0} where
  -- a list is what lies before an element, the element and what lies behind it
  pub parted : (xs : List X) (i : ℕ) (d : X) → i < length xs → xs ≡ take i xs ++ get_or xs i d ∷ drop (suc i) xs
  parted [] i d h = absurd (omega arith)
  parted (x ∷ xs) zero d h = refl
  parted (x ∷ xs) (suc i) d h = ap (λ ys. x ∷ ys) (parted xs i d (omega arith))

  -- where none passes at which a scan stops, none passes at all
  none_passes : (p : X → Bool) (xs : List X) → position p xs ≡ None → (q : X) → Contains xs q → p q ≡ false
  none_passes p xs none q m =
      let long : length xs ≤ position_or_len p xs = grind (arith, nat_tests) in
      let passes = prefix_len_passes (λ x. not (p x)) xs m.0 q (omega (arith, m.1, long)) in
      let failed : p (get_or xs m.0 q) ≡ false = search (tests, rules) in
      rw m.2 at failed

  into : (a b : List X) (x q : X) → Contains (a ++ b) q → Contains (a ++ x ∷ b) q
  into a b x q m = elim (Contains-append_cases a b q m) [ inl h ↦ Contains-append_left a (x ∷ b) q h | inr h ↦ Contains-append_right a (x ∷ b) q (more_in x b q h) ]

  outof : (a b : List X) (x q : X) → Contains (a ++ x ∷ b) q → (q ≡ x) ⊎ Contains (a ++ b) q
  outof a b x q m =
      elim (Contains-append_cases a (x ∷ b) q m) [
        | inl h ↦ inr (Contains-append_left a b q h)
        | inr h ↦ elim (cases_in x b q h) [ inl e ↦ inl (sym e) | inr n ↦ inr (Contains-append_right a b q n) ]
      ]

module _ {L R : Type 0} (same_left : L → L → Bool) (same_right : R → R → Bool) (lefts : IsEquivalence same_left) (rights : IsEquivalence same_right) where
  -- no other pair shares a value with the one in the middle
  apart_mid : (a b : List (L × R)) (x q : L × R) → IsApart same_left same_right (a ++ x ∷ b) → Contains (a ++ b) q → shares same_left same_right q x ≡ false
  apart_mid [] b x q h m = shares_symm same_left same_right lefts rights q x ∙ apart_head same_left same_right x b h q m
  apart_mid (y ∷ a) b x q h m =
      elim (cases_in y (a ++ b) q m) [
        | inl e ↦ ap (λ z. shares same_left same_right z x) (sym e) ∙ apart_head same_left same_right y (a ++ x ∷ b) h x (Contains-append_right a (x ∷ b) x (head_in x b))
        | inr n ↦ apart_mid a b x q (apart_tail same_left same_right y (a ++ x ∷ b) h) n
      ]

  apart_without : (a b : List (L × R)) (x : L × R) → IsApart same_left same_right (a ++ x ∷ b) → IsApart same_left same_right (a ++ b)
  apart_without [] b x h = apart_tail same_left same_right x b h
  apart_without (y ∷ a) b x h = apart_more same_left same_right y (a ++ b) (λ q m. apart_head same_left same_right y (a ++ x ∷ b) h q (into a b x q m)) (apart_without a b x (apart_tail same_left same_right y (a ++ x ∷ b) h))

  pub apart_push : (a : List (L × R)) (x : L × R) → IsApart same_left same_right a → NoneShares same_left same_right (Contains a) x → IsApart same_left same_right (a ++ x ∷ [])
  apart_push [] x h n = apart_more same_left same_right x [] (λ q m. none_in q m) (apart_none same_left same_right)
  apart_push (y ∷ a) x h n =
      apart_more same_left same_right y (a ++ x ∷ [])
      (λ q m. elim (Contains-push_cases a x q m) [
        | inl w ↦ apart_head same_left same_right y a h q w
        | inr e ↦ ap (λ z. shares same_left same_right y z) (sym e) ∙ n y (head_in y a)
      ])
      (apart_push a x (apart_tail same_left same_right y a h) (λ q m. n q (more_in y a q m)))

  -- what is taken out by a part that two pairs share only where they are not apart
  module _ {K : Type 0} (part : L × R → K) (same : K → K → Bool) (equal : IsEquivalence same) (unequal : (p q : L × R) → shares same_left same_right p q ≡ false → same (part p) (part q) ≡ false) (old : Vec (L × R)) (value : K) (apart : IsApart same_left same_right old.items) where
    without : (a b : List (L × R)) (x : L × R) → IsApart same_left same_right (a ++ x ∷ b) → same (part x) value ≡ true → (q : L × R) → Contains (a ++ b) q ↔ (Contains (a ++ x ∷ b) q × (same (part q) value ≡ false))
    without a b x h e q = (
      λ m. (into a b x q m, equal.symm (part q) value ∙ sym (equal.congr (part x) value (part q) e) ∙ equal.symm (part x) (part q) ∙ unequal q x (apart_mid a b x q h m)),
      λ m. elim (outof a b x q m.0) [
        | inl w ↦ absurd (true≢false (sym e ∙ ap (λ (z : L × R). same (part z) value) (sym w) ∙ m.1))
        | inr n ↦ n
      ],
    )

    -- where no pair has the value, none is taken out
    pub taken_none : position (λ q. same (part q) value) old.items ≡ None → IsTaken same_left same_right part same old value None old
    taken_none none =
        let lacks = none_passes (λ q. same (part q) value) old.items none in
        record { removed = lacks; without = λ q. (λ m. (m, lacks q m), λ m. m.0); apart = apart; unchanged = refl; spare = tt; shorter = tt; capacity = refl }

    -- else the first that has it
    pub taken_first : (i : ℕ) (p : L × R) (new : Vec (L × R)) → position (λ q. same (part q) value) old.items ≡ Some i → p ≡ get_or old.items i p → new.items ≡ take i old.items ++ drop (suc i) old.items → vec_len new + 1 ≡ vec_len old → vec_capacity new ≡ vec_capacity old → IsTaken same_left same_right part same old value (Some p) new
    taken_first i p new first read items shorter capacity =
        let at = position-Some (λ q. same (part q) value) old.items i p first in
        let e : same (part p) value ≡ true = ap (λ (z : L × R). same (part z) value) read ∙ at.1 in
        let cut : old.items ≡ take i old.items ++ p ∷ drop (suc i) old.items = parted old.items i p at.0 ∙ ap (λ w. take i old.items ++ w ∷ drop (suc i) old.items) (sym read) in
        let h = subst (IsApart same_left same_right) cut apart in
        record {
          removed = (subst (λ ws. Contains ws p) (sym cut) (Contains-append_right (take i old.items) (p ∷ drop (suc i) old.items) p (head_in p (drop (suc i) old.items))), e);
          without = λ q. subst (λ (ws : List (L × R)). Contains ws q ↔ (Contains old.items q × (same (part q) value ≡ false))) (sym items) (subst (λ (ws : List (L × R)). Contains (take i old.items ++ drop (suc i) old.items) q ↔ (Contains ws q × (same (part q) value ≡ false))) (sym cut) (without (take i old.items) (drop (suc i) old.items) p h e q));
          apart = subst (IsApart same_left same_right) (sym items) (apart_without (take i old.items) (drop (suc i) old.items) p h);
          unchanged = tt;
          spare = omega (arith, shorter, capacity);
          shorter = shorter;
          capacity = capacity;
        }

module _ {L R : Type 0} (same_left : L → L → Bool) (same_right : R → R → Bool) where
  -- what is left without a left and without a right
  pub cleared_by : (xs ys zs : List (L × R)) (l : L) (r : R) → IsWithoutLeft same_left (Contains xs) l (Contains ys) → IsWithoutRight same_right (Contains ys) r (Contains zs) → IsCleared same_left same_right xs (l, r) zs
  cleared_by xs ys zs l r a b q = (
    λ m. let n = (b q).0 m in let k = (a q).0 n.0 in (k.0, or_from (same_left q.0 l) (same_right q.1 r) k.1 n.1),
    λ m. let w = or_parts (same_left q.0 l) (same_right q.1 r) m.1 in (b q).1 ((a q).1 (m.0, w.0), w.1),
  )

  pub put_by : (xs ys zs : List (L × R)) (p : L × R) → IsCleared same_left same_right xs p ys → zs ≡ ys ++ p ∷ [] → IsWithPut same_left same_right (Contains xs) p (Contains zs)
  put_by xs ys zs p c e q = (
    λ m. elim (Contains-push_cases ys p q (subst (λ (ws : List (L × R)). Contains ws q) e m)) [ inl n ↦ inr ((c q).0 n) | inr w ↦ inl (sym w) ],
    λ m. subst (λ (ws : List (L × R)). Contains ws q) (sym e) (elim m [ inl w ↦ subst (λ (x : L × R). Contains (ys ++ p ∷ []) x) (sym w) (Contains-push ys p) | inr n ↦ Contains-append_left ys (p ∷ []) q ((c q).1 n) ]),
  )

  pub apart_by : (lefts : IsEquivalence same_left) (rights : IsEquivalence same_right) (xs ys zs : List (L × R)) (p : L × R) → IsApart same_left same_right ys → IsCleared same_left same_right xs p ys → zs ≡ ys ++ p ∷ [] → IsApart same_left same_right zs
  apart_by lefts rights xs ys zs p h c e = subst (IsApart same_left same_right) (sym e) (apart_push same_left same_right lefts rights ys p h (λ q m. ((c q).0 m).1))

module _ {L R : Type 0} (same_left : L → L → Bool) (same_right : R → R → Bool) (lefts : IsEquivalence same_left) (rights : IsEquivalence same_right) where
  shares_by_left : (p q : L × R) → same_left p.0 q.0 ≡ true → shares same_left same_right p q ≡ true
  shares_by_left p q e = ap (λ b. b || same_right p.1 q.1) e

  shares_by_right : (p q : L × R) → same_right p.1 q.1 ≡ true → shares same_left same_right p q ≡ true
  shares_by_right p q e = or_right (same_left p.0 q.0) (same_right p.1 q.1) e

  left_tie : (p q : L × R) (l : L) → same_left p.0 l ≡ true → same_left q.0 l ≡ true → same_left q.0 p.0 ≡ true
  left_tie p q l e f = lefts.symm q.0 p.0 ∙ lefts.congr p.0 l q.0 e ∙ lefts.symm l q.0 ∙ f

  right_tie : (p q : L × R) (r : R) → same_right p.1 r ≡ true → same_right q.1 r ≡ true → same_right q.1 p.1 ≡ true
  right_tie p q r e f = rights.symm q.1 p.1 ∙ rights.congr p.1 r q.1 e ∙ rights.symm r q.1 ∙ f

  module _ (xs : List (L × R)) (ys : List (L × R)) (l : L) (r : R) (apart : IsApart same_left same_right xs) (without : IsWithoutLeft same_left (Contains xs) l (Contains ys)) where
    one_left : (p q : L × R) → Contains xs p → same_left p.0 l ≡ true → Contains xs q → same_left q.0 l ≡ true → q ≡ p
    one_left p q m e n f = apart_unique same_left same_right lefts rights xs q p apart n m (shares_by_left q p (left_tie p q l e f))

    only_left : (p q : L × R) → Contains xs p → same_left p.0 l ≡ true → LacksRight same_right (Contains ys) r → Contains xs q → (b : Bool) → same_left q.0 l ≡ b → (b || same_right q.1 r) ≡ true → q ≡ p
    only_left p q m e k n true f s = one_left p q m e n f
    only_left p q m e k n false f s = absurd (true≢false (sym s ∙ k q ((without q).1 (n, f))))

    pub struck_left : (p : L × R) → Contains xs p → same_left p.0 l ≡ true → LacksRight same_right (Contains ys) r → IsOnlyStruck same_left same_right (Contains xs) (l, r) p
    struck_left p m e k = record { member = m; only = λ q n s. only_left p q m e k n (same_left q.0 l) refl s }

    only_right : (p q : L × R) → Contains xs p → same_right p.1 r ≡ true → LacksLeft same_left (Contains xs) l → Contains xs q → (b : Bool) → same_left q.0 l ≡ b → (b || same_right q.1 r) ≡ true → q ≡ p
    only_right p q m e k n true f s = absurd (true≢false (sym f ∙ k q n))
    only_right p q m e k n false f s = apart_unique same_left same_right lefts rights xs q p apart n m (shares_by_right q p (right_tie p q r e s))

    pub struck_right : (p : L × R) → Contains ys p → same_right p.1 r ≡ true → LacksLeft same_left (Contains xs) l → IsOnlyStruck same_left same_right (Contains xs) (l, r) p
    struck_right p m e k = record { member = ((without p).0 m).0; only = λ q n s. only_right p q ((without p).0 m).0 e k n (same_left q.0 l) refl s }

    only_both : (p q s : L × R) → Contains xs p → same_left p.0 l ≡ true → Contains xs q → same_right q.1 r ≡ true → Contains xs s → (b : Bool) → same_left s.0 l ≡ b → (b || same_right s.1 r) ≡ true → (s ≡ p) ⊎ (s ≡ q)
    only_both p q s m e n f k true g h = inl (one_left p s m e k g)
    only_both p q s m e n f k false g h = inr (apart_unique same_left same_right lefts rights xs s q apart k n (shares_by_right s q (right_tie q s r f h)))

    pub struck_both : (p q : L × R) → Contains xs p → same_left p.0 l ≡ true → Contains ys q → same_right q.1 r ≡ true → AreBothStruck same_left same_right (Contains xs) (l, r) p q
    struck_both p q m e n f = record {
      first = m;
      second = ((without q).0 n).0;
      two = λ w. true≢false (sym e ∙ ap (λ (z : L × R). same_left z.0 l) w ∙ ((without q).0 n).1);
      by_left = e;
      by_right = f;
      only = λ s k h. only_both p q s m e ((without q).0 n).0 f k (same_left s.0 l) refl h;
    }

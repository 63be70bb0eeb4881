-- Pairs that are tested one after another.
use Rattle.std.proofs.Common.{◌≡◌, inl, inr, ℕ, suc, zero, ◌+◌, ◌<◌, ◌≤◌, Bool, true, false, List, [], ◌∷◌, ◌++◌, length, take, drop, get_or, refl, sym, ap, ◌∙◌, subst, arith, length-append, append-nil, append_assoc}
use Rattle.std.specs.Prelude.{Contains}
use Rattle.std.specs.List.Sorted.{IsPermutation}
use Rattle.std.proofs.lemmas.List.Sorted.{IsPermutation-refl}
use denote.Param.Members.{Mut}
use denote.Ref.{Bor}
use Rattle.bimap_base.specs.Sets.{IsApart}
use Rattle.bimap_base.specs.Kept.{TestedAt, TestsInOrder, answered_true}
use Rattle.bimap_base.proofs.Members.{head_in, more_in, cases_in}
use Rattle.bimap_any.proofs.Testing.{tests_push, true_push, false_push}
use Rattle.bimap_base.proofs.Apart.{apart_head, apart_tail, apart_more, apart_none}

module _ {F L R : Type 0} (g : Mut F (Bor L × (Bor R × Unit {0})) Bool) where
  among : (ps : List (L × R)) (bs : List Bool) (q : L × R) → Contains (answered_true g ps bs) q → Contains ps q
  among [] bs q m = m
  among (p ∷ ps) [] q m = absurd (omega (arith, m.1))
  among (p ∷ ps) (true ∷ bs) q m = elim (cases_in p (answered_true g ps bs) q m) [ inl e ↦ subst (Contains (p ∷ ps)) e (head_in p ps) | inr n ↦ more_in p ps q (among ps bs q n) ]
  among (p ∷ ps) (false ∷ bs) q m = more_in p ps q (among ps bs q m)

  pub apart_true : (same_left : L → L → Bool) (same_right : R → R → Bool) (ps : List (L × R)) (bs : List Bool) → IsApart same_left same_right ps → IsApart same_left same_right (answered_true g ps bs)
  apart_true same_left same_right [] bs h = h
  apart_true same_left same_right (p ∷ ps) [] h = apart_none same_left same_right
  apart_true same_left same_right (p ∷ ps) (true ∷ bs) h = apart_more same_left same_right p (answered_true g ps bs) (λ q m. apart_head same_left same_right p ps h q (among ps bs q m)) (apart_true same_left same_right ps bs (apart_tail same_left same_right p ps h))
  apart_true same_left same_right (p ∷ ps) (false ∷ bs) h = apart_true same_left same_right ps bs (apart_tail same_left same_right p ps h)

  -- the pairs old were tested up to rest: f is the closure now, items the pairs that are left, kept how many of these passed
  pub record IsTestedUpTo (first f : F) (old items : List (L × R)) (kept : ℕ) : Type 0 where
    pub tested : List (L × R)
    pub answers : List Bool
    pub rest : List (L × R)
    pub all : old ≡ tested ++ rest
    pub left : items ≡ answered_true g tested answers ++ rest
    pub count : kept ≡ length (answered_true g tested answers)
    pub calls : TestsInOrder g first tested answers f

  at_length : (xs ys : List (L × R)) (d : L × R) (k : ℕ) → k ≡ length xs → k < length (xs ++ ys) → ys ≡ get_or (xs ++ ys) k d ∷ drop (suc k) (xs ++ ys)
  at_length xs [] d k e h = absurd (omega (arith, length-append xs []))
  at_length [] (y ∷ ys) d zero e h = refl
  at_length [] (y ∷ ys) d (suc k) e h = absurd (omega arith)
  at_length (x ∷ xs) (y ∷ ys) d zero e h = absurd (omega arith)
  at_length (x ∷ xs) (y ∷ ys) d (suc k) e h = at_length xs (y ∷ ys) d k (omega arith) (omega arith)

  cut : (xs ys : List (L × R)) (k : ℕ) → k ≡ length xs → take k (xs ++ ys) ≡ xs
  cut [] ys zero e = refl
  cut [] ys (suc k) e = absurd (omega arith)
  cut (x ∷ xs) ys zero e = absurd (omega arith)
  cut (x ∷ xs) ys (suc k) e = ap (λ zs. x ∷ zs) (cut xs ys k (omega arith))

  module _ (first f t : F) (old items : List (L × R)) (kept : ℕ) (so_far : IsTestedUpTo first f old items kept) (inside : kept < length items) (p : L × R) (value : p ≡ get_or items kept p) where
    pub tail : List (L × R)
    tail = drop (suc kept) items

    rest_is : so_far.rest ≡ p ∷ tail
    unfolding tail
    rest_is =
        at_length (answered_true g so_far.tested so_far.answers) so_far.rest p kept so_far.count (subst (λ (xs : List (L × R)). kept < length xs) so_far.left inside)
        ∙ ap (λ (xs : List (L × R)). get_or xs kept p ∷ drop (suc kept) xs) (sym so_far.left)
        ∙ ap (λ (q : L × R). q ∷ drop (suc kept) items) (sym value)

    all_is : old ≡ (so_far.tested ++ p ∷ []) ++ tail
    all_is = so_far.all ∙ ap (λ xs. so_far.tested ++ xs) rest_is ∙ sym (append_assoc so_far.tested (p ∷ []) tail)

    pub order_now : (q : L × R) → q ≡ p → IsPermutation old (so_far.tested ++ q ∷ tail)
    order_now q e = subst (IsPermutation old) (so_far.all ∙ ap (λ xs. so_far.tested ++ xs) (rest_is ∙ ap (λ (x : L × R). x ∷ tail) (sym e))) (IsPermutation-refl old)

    pub passed : TestedAt g f p true t → IsTestedUpTo first t old items (kept + 1)
    passed h = record {
      tested = so_far.tested ++ p ∷ [];
      answers = so_far.answers ++ true ∷ [];
      rest = tail;
      all = all_is;
      left = so_far.left ∙ ap (λ xs. answered_true g so_far.tested so_far.answers ++ xs) rest_is ∙ sym (append_assoc (answered_true g so_far.tested so_far.answers) (p ∷ []) tail) ∙ ap (λ xs. xs ++ tail) (sym (true_push g first so_far.tested so_far.answers f p so_far.calls));
      count = omega (arith, so_far.count, length-append (answered_true g so_far.tested so_far.answers) (p ∷ []), ap length (true_push g first so_far.tested so_far.answers f p so_far.calls));
      calls = tests_push g first so_far.tested so_far.answers f p true t so_far.calls h;
    }

    pub refused : (items' : List (L × R)) → items' ≡ take kept items ++ drop (suc kept) items → TestedAt g f p false t → IsTestedUpTo first t old items' kept
    unfolding tail
    refused items' e h = record {
      tested = so_far.tested ++ p ∷ [];
      answers = so_far.answers ++ false ∷ [];
      rest = tail;
      all = all_is;
      left = e ∙ ap (λ xs. xs ++ tail) (ap (take kept) so_far.left ∙ cut (answered_true g so_far.tested so_far.answers) so_far.rest kept so_far.count ∙ sym (false_push g first so_far.tested so_far.answers f p so_far.calls));
      count = so_far.count ∙ ap length (sym (false_push g first so_far.tested so_far.answers f p so_far.calls));
      calls = tests_push g first so_far.tested so_far.answers f p false t so_far.calls h;
    }

  module _ (first f : F) (old items : List (L × R)) (kept : ℕ) (so_far : IsTestedUpTo first f old items kept) (end : length items ≤ kept) where
    none_left : (xs ys : List (L × R)) → length (xs ++ ys) ≤ length xs → ys ≡ []
    none_left xs [] h = refl
    none_left xs (y ∷ ys) h = absurd (omega (arith, length-append xs (y ∷ ys)))

    rest_none : so_far.rest ≡ []
    rest_none = none_left (answered_true g so_far.tested so_far.answers) so_far.rest (omega (arith, ap length so_far.left, so_far.count))

    order_is : old ≡ so_far.tested
    order_is = so_far.all ∙ ap (λ xs. so_far.tested ++ xs) rest_none ∙ append-nil so_far.tested

    items_is : items ≡ answered_true g so_far.tested so_far.answers
    items_is = so_far.left ∙ ap (λ xs. answered_true g so_far.tested so_far.answers ++ xs) rest_none ∙ append-nil (answered_true g so_far.tested so_far.answers)

    pub ended_apart : (same_left : L → L → Bool) (same_right : R → R → Bool) → IsApart same_left same_right old → IsApart same_left same_right items
    ended_apart same_left same_right h = subst (IsApart same_left same_right) (sym items_is) (apart_true same_left same_right so_far.tested so_far.answers (subst (IsApart same_left same_right) order_is h))

pub pair_at : {L R : Type 0} (p : L × R) (l : L) (r : R) → l ≡ p.0 → r ≡ p.1 → ◌≡◌ {A = L × R} (l, r) p
pair_at {L} {R} p l r x y = ap (λ (a : L). (a, r)) x ∙ ap (λ (b : R). (p.0, b)) y

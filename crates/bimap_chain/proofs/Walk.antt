-- Reads along a chain.
use Rattle.std.proofs.Common.{◌≡◌, ℕ, ◌+◌, ◌%◌, ◌<◌, ◌≤◌, Bool, true, false, List, length, Option, None, Some, refl, sym, ◌∙◌, ap, subst, arith, eqb-true, eq-eqb, inl, inr}
use Rattle.std.specs.Prelude.{slice_index_or, IsSomeAnd, IsSome, IfSome, IsTrue, nat_eq}
use Rattle.std.specs.Option.{MatchOption, option_eq}
use Rattle.bimap_chain.specs.Chains.{Numbers, number_at, is_of, last_below, NoneWithin, IsThreaded, GoesOver, AreNumbered, Matches, IsListed}
use Rattle.std.proofs.lemmas.Bool.{cases_lt}
use Rattle.bimap_chain.proofs.Below.{found, found_none}

-- A place in the bucket has a number of the bucket.
pub of_bucket : (n b : ℕ) (o : Option ℕ) → is_of n b o ≡ true → (h : ℕ) × (o ≡ Some h) × (h % n ≡ b)
of_bucket n b None e = cc
of_bucket n b (Some h) e = (h, refl, eqb-true (h % n) b e)

-- The link of a place in the bucket leads to the next lower place of the bucket.
pub leads : (c : Numbers) (links heads : List (Option ℕ)) (b p : ℕ) → IsThreaded c links heads → is_of (length heads) b (number_at c p) ≡ true → slice_index_or links p None ≡ last_below c (length heads) b p
leads c links heads b p t e =
    let o = of_bucket (length heads) b (number_at c p) e in
    t.links_lead p o.0 o.1 ∙ ap (λ k. last_below c (length heads) k p) o.2

-- A read along a chain has come to `end`. `over` is the place whose link was read, and `at` is the place that it leads to.
pub record Along (c : Numbers) (n b : ℕ) (over : Option ℕ) (end : ℕ) (at : Option ℕ) : Type 0 where
  pub at_last : at ≡ last_below c n b end
  pub within : end ≤ length c
  pub over_end : MatchOption over (end ≡ length c) (λ p. (p ≡ end) × (p < length c) × (is_of n b (number_at c p) ≡ true))

-- The place that a chain leads to is listed, and is below the end.
pub arrived : (c : Numbers) (n b end next : ℕ) {at : Option ℕ} → at ≡ last_below c n b end → end ≤ length c → at ≡ Some next → (next < end) × (next < length c) × IsListed c next
arrived c n b end next last within e =
    let f = found n b c end next (sym last ∙ e) in
    let o = of_bucket n b (number_at c next) f.1 in
    (f.0, omega (arith, f.0, within), (o.0, o.1))

pub stepped : (c : Numbers) (links heads : List (Option ℕ)) (b : ℕ) (over : Option ℕ) (end next : ℕ) {at : Option ℕ} (read : Option ℕ) → IsThreaded c links heads → Along c (length heads) b over end at → at ≡ Some next → read ≡ slice_index_or links next None → Along c (length heads) b (Some next) next read
stepped c links heads b over end next read t s e r =
    let f = found (length heads) b c end next (sym s.at_last ∙ e) in
    record { at_last = r ∙ leads c links heads b next t f.1; within = omega (arith, f.0, s.within); over_end = (refl, omega (arith, f.0, s.within), f.1) }

-- No place of the bucket is between `place` and `end`.
over_of : (c : Numbers) (n b place : ℕ) (over : Option ℕ) (end : ℕ) (at : Option ℕ) → Along c n b over end at → place < end → NoneWithin c n b (place + 1) end → GoesOver c n b place over
over_of c n b place None end at s l h = subst (λ m. NoneWithin c n b (place + 1) m) s.over_end h
over_of c n b place (Some p) end at s l h =
    (omega (arith, s.over_end.0, l), s.over_end.1, s.over_end.2, subst (λ m. NoneWithin c n b (place + 1) m) (sym s.over_end.0) h)

pub ended_none : (c : Numbers) (n b place : ℕ) (over : Option ℕ) (end : ℕ) {at : Option ℕ} → Along c n b over end at → place < end → at ≡ None → GoesOver c n b place over
ended_none c n b place over end {at} s l e = over_of c n b place over end at s l (λ q i r. found_none n b c end (sym s.at_last ∙ e) q (omega arith) r)

pub ended_some : (c : Numbers) (n b place : ℕ) (over : Option ℕ) (end next : ℕ) {at : Option ℕ} → Along c n b over end at → place < end → at ≡ Some next → next ≤ place → GoesOver c n b place over
ended_some c n b place over end next {at} s k e l =
    over_of c n b place over end at s k (λ q i j. (found n b c end next (sym s.at_last ∙ e)).2 q (omega arith) j)

-- No place from `end` on matches. A search has passed all of them.
abbrev pub Passed : {Key : Type 0} → (ℕ → Option Key) → (Key → Bool) → Numbers → ℕ → Type 0
Passed key_at test c end = (p : ℕ) → end ≤ p → Matches key_at test c p → ⊥

has : {Key : Type 0} (P : Key → Type 0) (o : Option Key) → IsSomeAnd o P → IsSome o
has P (Some k) h = refl
has P None h = absurd h

passes : {Key : Type 0} (P : Key → Type 0) (test : Key → Bool) (o : Option Key) (r : Bool) → IsSomeAnd o P → IfSome o (λ k. r ≡ test k) → r ≡ true → IsSomeAnd o (λ k. IsTrue (test k))
passes P test (Some k) r h i t = sym i ∙ t
passes P test None r h i t = absurd h

fails : {Key : Type 0} (test : Key → Bool) (o : Option Key) (r : Bool) → IsSomeAnd o (λ k. IsTrue (test k)) → IfSome o (λ k. r ≡ test k) → r ≡ false → ⊥
fails test (Some k) r h i f = let e : test k ≡ false = sym i ∙ f in cc
fails test None r h i f = absurd h

-- If two options are equal, they contain the same number.
pub is_some_of : (o : Option ℕ) (n : ℕ) {r : Bool} → r ≡ option_eq nat_eq o (Some n) → r ≡ true → o ≡ Some n
is_some_of None n e t = cc
is_some_of (Some m) n e t = ap Some (eqb-true m n (sym e ∙ t))

pub is_other : (o : Option ℕ) (n : ℕ) {r : Bool} → r ≡ option_eq nat_eq o (Some n) → r ≡ false → o ≡ Some n → ⊥
is_other None n e f h = cc
is_other (Some m) n e f h = let i : m ≡ n = cc in let t = eq-eqb m n i in let g = sym e ∙ f in cc

same_number : {Key : Type 0} (test : Key → Bool) (number_of : Key → ℕ) (number h : ℕ) (o : Option Key) → IsSomeAnd o (λ k. number_of k ≡ h) → IsSomeAnd o (λ k. IsTrue (test k)) → ((k : Key) → IsTrue (test k) → number_of k ≡ number) → h ≡ number
same_number test number_of number h (Some k) a t u = sym a ∙ u k t
same_number test number_of number h None a t u = absurd a

-- A place is at `place`, between `place` and `end`, or past the end.
three : {P : Type 0} (place end p : ℕ) → place ≤ p → (place ≡ p → P) → (place < p → p < end → P) → (end ≤ p → P) → P
three {P} place end p i at between past =
    elim (cases_lt p end) [ inl l ↦ elim (cases_lt place p) [ inl k ↦ between k l | inr k ↦ at (omega arith) ] | inr l ↦ past l ]

-- A number is in its own bucket.
other : (c : Numbers) (number n p : ℕ) → number_at c p ≡ Some number → is_of n (number % n) (number_at c p) ≡ false → ⊥
other c number n p e f =
    let t : is_of n (number % n) (number_at c p) ≡ true = ap (is_of n (number % n)) e ∙ eq-eqb (number % n) (number % n) refl in cc

module _ {Key : Type 0} (key_at : ℕ → Option Key) (test : Key → Bool) (c : Numbers) where
  -- The key of a listed place failed the test.
  pub miss : (p : ℕ) (r : Bool) → IfSome (key_at p) (λ k. r ≡ test k) → r ≡ false → Matches key_at test c p → ⊥
  miss p r i f m = fails test (key_at p) r m.1 i f

module _ {Key : Type 0} (key_at : ℕ → Option Key) (number_of : Key → ℕ) (test : Key → Bool) (c : Numbers) where
  -- A listed place has a key.
  pub keyed : (p h : ℕ) → AreNumbered key_at number_of c → number_at c p ≡ Some h → IsSome (key_at p)
  keyed p h a e = has (λ k. number_of k ≡ h) (key_at p) (a.numbered p h e)

  -- The key of a listed place passed the test.
  pub hit : (p h : ℕ) (r : Bool) → AreNumbered key_at number_of c → number_at c p ≡ Some h → IfSome (key_at p) (λ k. r ≡ test k) → r ≡ true → Matches key_at test c p
  hit p h r a e i t = ((h, e), passes (λ k. number_of k ≡ h) test (key_at p) r (a.numbered p h e) i t)

  -- A place whose key passes the test has the number of that key.
  pub its_number : (p number : ℕ) → AreNumbered key_at number_of c → ((k : Key) → IsTrue (test k) → number_of k ≡ number) → Matches key_at test c p → number_at c p ≡ Some number
  its_number p number a u m = m.0.1 ∙ ap Some (same_number test number_of number m.0.0 (key_at p) (a.numbered p m.0.0 m.0.1) m.1 u)

  pub gone_on : (n b number end place : ℕ) (over : Option ℕ) {at : Option ℕ} → AreNumbered key_at number_of c → ((k : Key) → IsTrue (test k) → number_of k ≡ number)
      → b ≡ number % n → Along c n b over end at → Passed key_at test c end → at ≡ Some place → (Matches key_at test c place → ⊥) → Passed key_at test c place
  gone_on n b number end place over a u i s passed e absent p l m =
      three place end p l (λ j. absent (subst (λ q. Matches key_at test c q) (sym j) m))
      (λ j k. other c number n p (its_number p number a u m) (subst (λ k. is_of n k (number_at c p) ≡ false) i ((found n b c end place (sym s.at_last ∙ e)).2 p (omega arith) k))) (λ k. passed p k m)

  -- At the end of the chain no place matches.
  pub nothing_left : (n b number end : ℕ) (over : Option ℕ) {at : Option ℕ} → AreNumbered key_at number_of c → ((k : Key) → IsTrue (test k) → number_of k ≡ number) → b ≡ number % n → Along c n b over end at → Passed key_at test c end → at ≡ None → (p : ℕ) → Matches key_at test c p → ⊥
  nothing_left n b number end over a u i s passed e p m =
      elim (cases_lt p end) [ inl l ↦ other c number n p (its_number p number a u m) (subst (λ k. is_of n k (number_at c p) ≡ false) i (found_none n b c end (sym s.at_last ∙ e) p (omega arith) l)) | inr l ↦ passed p l m ]

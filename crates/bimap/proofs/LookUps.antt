-- What a caller can derive about the contained pairs: which are there, which stay, what is free, and that a value has
-- one partner.
use Rattle.std.proofs.Common.{◌≡◌, ◌||◌, Bool, true, false, Option, Some, None, IfSome, inl, inr, refl, sym, ap, subst, ◌∙◌, true≢false}
use Rattle.std.specs.Prelude.{Contains, List, option_copied, Result, Ok, Err}
use Rattle.std.specs.Borrow.{Bor}
use Rattle.std.specs.Cmp.{IsEquivalence}
use Rattle.std.proofs.lemmas.Bool.{or_left, or_right}
use Rattle.bimap_any.specs.Exchange.{IsPartReplaced, IsReplacementOfLeft, IsReplacementOfRight}
use Rattle.bimap_base.specs.Sets.{shares, IsApart, IsWithPut, LacksLeft, LacksRight, NoneShares}
use Rattle.bimap_base.specs.Holding.{Holding, IsFoundByLeft, IsFoundByRight, IsInsertionWithoutOverwriting, IsInterning}
use Rattle.bimap_any.specs.InterningByRight.{IsInterningByRight}
use Rattle.bimap_base.specs.declared.refusal.NotInserted.{NotInserted}
use Rattle.bimap_base.specs.declared.refusal.NotReplaced.{NotReplaced}
use Rattle.bimap_base.proofs.Apart.{apart_unique}

or_false : (x y : Bool) → x ≡ false → y ≡ false → (x || y) ≡ false
or_false true y e f = e
or_false false y e f = f

module _ {L R : Type 0} (same_left : L → L → Bool) (same_right : R → R → Bool) (S : L × R → Type 0) (p : L × R) (T : L × R → Type 0) where
  -- An inserted pair is contained.
  pub put_is_held : IsWithPut same_left same_right S p T → T p
  put_is_held put = (put p).1 (inl refl)

  -- An earlier pair that shares no value with the inserted one is still contained.
  pub other_stays : IsWithPut same_left same_right S p T → (q : L × R) → S q → shares same_left same_right q p ≡ false → T q
  other_stays put q was apart = (put q).1 (inr (was, apart))

  -- If no pair shares a value with the inserted one, all earlier pairs are still contained.
  pub all_stay : IsWithPut same_left same_right S p T → NoneShares same_left same_right S p → (q : L × R) → S q → T q
  all_stay put none q was = other_stays put q was (none q was)

-- an insertion that overwrites nothing keeps all pairs of before, also where it is refused
pub each_stays : {L R : Type 0} {same_left : L → L → Bool} {same_right : R → R → Bool} {old new : Holding L R} {pair : L × R} {result : Result (Unit {0}) (NotInserted L R)} → IsInsertionWithoutOverwriting same_left same_right old pair result new → (q : L × R) → Contains old.pairs q → Contains new.pairs q
each_stays {same_left = same_left} {same_right = same_right} {old = old} {new = new} {pair = pair} {result = Ok done} i q was = all_stay same_left same_right (Contains old.pairs) pair (Contains new.pairs) i.put i.none_held q was
each_stays {L = L} {R = R} {result = Err why} i q was = subst (λ (held : Holding L R). Contains held.pairs q) (sym i.unchanged) was

module _ {L R : Type 0} (same_left : L → L → Bool) (same_right : R → R → Bool) (S : L × R → Type 0) (l : L) (r : R) where
  -- If a left and a right are both free, no pair shares a value with the pair of the two.
  pub none_shares : LacksLeft same_left S l → LacksRight same_right S r → (q : L × R) → S q → shares same_left same_right q (l, r) ≡ false
  none_shares lefts rights q s = or_false (same_left q.0 l) (same_right q.1 r) (lefts q s) (rights q s)

-- A pair that does not have the replaced value stays. The argument `part` is the side, so the lemma serves both sides.
pub others_stay : {L R K M : Type 0} (part : L × R → K) (pair : K → M → L × R) (same : K → K → Bool) (S : L × R → Type 0) (from to taken : K) (T : L × R → Type 0) → ((k : K) (m : M) → part (pair k m) ≡ k) → IsPartReplaced part pair same S from to taken T → (p : L × R) → S p → same (part p) from ≡ false → T p
others_stay part pair same S from to taken T is r p s e = (r.exchanged.exchanged p).1 (inr (s, λ q. true≢false (sym r.by_part ∙ ap (λ k. same k from) (sym (is taken r.other)) ∙ ap (λ z. same (part z) from) (sym q) ∙ e)))

module _ {L R : Type 0} where
  -- a pair with another left stays where a left is replaced, also where that is refused
  pub other_lefts_stay : {same_left : L → L → Bool} {old new : Holding L R} {from to : L} {result : Result L (NotReplaced L)} → IsReplacementOfLeft same_left old from to result new → (p : L × R) → Contains old.pairs p → same_left p.0 from ≡ false → Contains new.pairs p
  other_lefts_stay {same_left = same_left} {old = old} {new = new} {from = from} {to = to} {result = Ok taken} h p m e = others_stay (λ q. q.0) (λ l r. (l, r)) same_left (Contains old.pairs) from to taken (Contains new.pairs) (λ k r. refl) h.replaced p m e
  other_lefts_stay {result = Err why} h p m e = subst (λ (held : Holding L R). Contains held.pairs p) (sym h.unchanged) m

  -- and one with another right where a right is
  pub other_rights_stay : {same_right : R → R → Bool} {old new : Holding L R} {from to : R} {result : Result R (NotReplaced R)} → IsReplacementOfRight same_right old from to result new → (p : L × R) → Contains old.pairs p → same_right p.1 from ≡ false → Contains new.pairs p
  other_rights_stay {same_right = same_right} {old = old} {new = new} {from = from} {to = to} {result = Ok taken} h p m e = others_stay (λ q. q.1) (λ r l. (l, r)) same_right (Contains old.pairs) from to taken (Contains new.pairs) (λ k l. refl) h.replaced p m e
  other_rights_stay {result = Err why} h p m e = subst (λ (held : Holding L R). Contains held.pairs p) (sym h.unchanged) m

module _ {L R : Type 0} (same_left : L → L → Bool) (same_right : R → R → Bool) (lefts : IsEquivalence same_left) (rights : IsEquivalence same_right) where
  -- Two pairs with equal lefts are the same pair.
  pub one_by_left : (held : List (L × R)) (p q : L × R) → IsApart same_left same_right held → Contains held p → Contains held q → same_left p.0 q.0 ≡ true → p ≡ q
  one_by_left held p q apart m n e = apart_unique same_left same_right lefts rights held p q apart m n (or_left (same_left p.0 q.0) (same_right p.1 q.1) e)

  -- Two pairs with equal rights are the same pair.
  pub one_by_right : (held : List (L × R)) (p q : L × R) → IsApart same_left same_right held → Contains held p → Contains held q → same_right p.1 q.1 ≡ true → p ≡ q
  one_by_right held p q apart m n e = apart_unique same_left same_right lefts rights held p q apart m n (or_right (same_left p.0 q.0) (same_right p.1 q.1) e)

  -- interning a left that the map contains returns its right
  pub known_right : {old new : Holding L R} {pair : L × R} {result : Result R (NotInserted L R)} → IsApart same_left same_right old.pairs → IsInterning same_left same_right old pair result new → (l : L) (r : R) → Contains old.pairs (l, r) → same_left l pair.0 ≡ true → result ≡ Ok r
  known_right {result = Err why} apart i l r m e = absurd (true≢false (sym (i.held ((l, r), m, e)).0))
  known_right {old = old} {new = new} {pair = pair} {result = Ok right} apart i l r m e =
      let is = subst (λ (held : Holding L R). Contains held.pairs (i.answer.0, right)) (i.held ((l, r), m, e)).1 i.answer.1 in
      let one = one_by_left old.pairs (i.answer.0, right) (l, r) apart is m (lefts.congr i.answer.0 pair.0 l i.answer.2 ∙ lefts.symm pair.0 l ∙ e) in
      ap (λ (p : L × R). Ok p.1) one

  -- interning a right that the map contains returns its left
  pub known_left : {old new : Holding L R} {pair : L × R} {result : Result L (NotInserted L R)} → IsApart same_left same_right old.pairs → IsInterningByRight same_left same_right old pair result new → (l : L) (r : R) → Contains old.pairs (l, r) → same_right r pair.1 ≡ true → result ≡ Ok l
  known_left {result = Err why} apart i l r m e = absurd (true≢false (sym (i.held ((l, r), m, e)).0))
  known_left {old = old} {new = new} {pair = pair} {result = Ok left} apart i l r m e =
      let is = subst (λ (held : Holding L R). Contains held.pairs (left, i.answer.0)) (i.held ((l, r), m, e)).1 i.answer.1 in
      let one = one_by_right old.pairs (left, i.answer.0) (l, r) apart is m (rights.congr i.answer.0 pair.1 r i.answer.2 ∙ rights.symm pair.1 r ∙ e) in
      ap (λ (p : L × R). Ok p.0) one

  -- A look-up finds the partner of an equal left.
  pub found_by_left : (held : Holding L R) (key l : L) (r : R) (found : Option (Bor R)) → IsApart same_left same_right held.pairs → Contains held.pairs (l, r) → same_left l key ≡ true → IsFoundByLeft same_left held key found → option_copied found ≡ Some r
  found_by_left held key l r None apart is e h = absurd (true≢false (sym e ∙ h.none (l, r) is))
  found_by_left held key l r (Some b) apart is e h =
      let one = one_by_left held.pairs (h.found.0, b.now) (l, r) apart h.found.1 is (lefts.symm h.found.0 l ∙ lefts.congr l key h.found.0 e ∙ lefts.symm key h.found.0 ∙ h.found.2) in
      ap (λ (p : L × R). Some p.1) one

  -- A look-up finds the partner of an equal right.
  pub found_by_right : (held : Holding L R) (key r : R) (l : L) (found : Option (Bor L)) → IsApart same_left same_right held.pairs → Contains held.pairs (l, r) → same_right r key ≡ true → IsFoundByRight same_right held key found → option_copied found ≡ Some l
  found_by_right held key r l None apart is e h = absurd (true≢false (sym e ∙ h.none (l, r) is))
  found_by_right held key r l (Some b) apart is e h =
      let one = one_by_right held.pairs (b.now, h.found.0) (l, r) apart h.found.1 is (rights.symm h.found.0 r ∙ rights.congr r key h.found.0 e ∙ rights.symm key h.found.0 ∙ h.found.2) in
      ap (λ (p : L × R). Some p.0) one

module _ {L R : Type 0} where
  -- If equal lefts are identical, as numbers are, the found right is contained with exactly this left.
  pub held_under_left : (same_left : L → L → Bool) → ((a b : L) → same_left a b ≡ true → a ≡ b) → (held : Holding L R) (key : L) (found : Option (Bor R)) → IsFoundByLeft same_left held key found → IfSome found (λ right. Contains held.pairs (key, right.now))
  held_under_left same_left same held key None h = tt
  held_under_left same_left same held key (Some b) h = subst (λ (l : L). Contains held.pairs (l, b.now)) (same h.found.0 key h.found.2) h.found.1

  -- If equal rights are identical, the found left is contained with exactly this right.
  pub held_with_right : (same_right : R → R → Bool) → ((a b : R) → same_right a b ≡ true → a ≡ b) → (held : Holding L R) (key : R) (found : Option (Bor L)) → IsFoundByRight same_right held key found → IfSome found (λ left. Contains held.pairs (left.now, key))
  held_with_right same_right same held key None h = tt
  held_with_right same_right same held key (Some b) h = subst (λ (r : R). Contains held.pairs (b.now, r)) (same h.found.0 key h.found.2) h.found.1

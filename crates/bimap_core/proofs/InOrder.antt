-- Pairs of a list that are tested one after another.
use Rattle.std.proofs.Common.{◌≡◌, ◌≢◌, ℕ, suc, zero, ◌+◌, ◌<◌, ◌≤◌, Bool, List, [], ◌∷◌, ◌++◌, length, get_or, refl, sym, ap, ◌∙◌, subst, arith, length-append, append_assoc, Option, Some}
use Rattle.std.specs.Prelude.{not, slice_get}
use Rattle.std.specs.List.{AllPairs}
use Rattle.std.proofs.lemmas.List.{append-nil}
use denote.Param.Members.{Mut}
use denote.Ref.{Bor}
use Rattle.bimap_base.specs.Kept.{TestedAt, MayTestPair, MayTestInOrder}
use Rattle.bimap_base.specs.Positions.{IsTakenOut}
use Rattle.bimap_core.specs.Partition.{IsPartition}
use Rattle.bimap_core.proofs.Parting.{IsParted, begun, of_same, next, stays, goes_out, all_tested}
use Rattle.bimap_core.proofs.Retaining.{same_pair, none_left}
use Rattle.bimap_core.proofs.Positions.{next_at_rank, out_between}

-- What follows a prefix of a list begins with the element at that position.
at_end : {P : Type 0} (xs ys : List P) (k : ℕ) (p : P) → k ≡ length xs → k < length (xs ++ ys) → p ≡ get_or (xs ++ ys) k p → (zs : List P) × (ys ≡ p ∷ zs)
at_end [] [] k p e h is = absurd (omega arith)
at_end [] (y ∷ ys) zero p e h is = (ys, ap (λ z. z ∷ ys) (sym is))
at_end [] (y ∷ ys) (suc k) p e h is = absurd (omega arith)
at_end (x ∷ xs) ys zero p e h is = absurd (omega arith)
at_end (x ∷ xs) ys (suc k) p e h is = at_end xs ys k p (omega arith) (omega arith) is

module _ {F L R S : Type 0} (g : Mut F (Bor L × (Bor R × Unit {0})) Bool) (has_room : S → ℕ → Type 0) (receives : S → L × R → S → Type 0) (goes : Bool) where
  -- The pairs of `old` before `rest` were tested.
  -- `f` is the closure now, and `to` is the outlet now.
  -- `items` are the pairs that are left.
  -- `count` of them were kept after a test.
  pub record IsTestedUpTo (first f : F) (from to : S) (old items : List (L × R)) (count : ℕ) : Type 0 where
    pub tested : List (L × R)
    pub kept : List (L × R)
    pub rest : List (L × R)
    pub all : old ≡ tested ++ rest
    pub left : items ≡ kept ++ rest
    pub long : count ≡ length kept
    pub parted : IsParted g has_room receives goes first f from to tested rest kept

  pub start : (f : F) (from : S) (old : List (L × R)) → ((n : ℕ) → n ≤ length old → has_room from n) → IsTestedUpTo f f from from old old 0
  start f from old room = record { tested = []; kept = []; rest = old; all = refl; left = refl; long = refl; parted = begun g has_room receives goes f from old room }

  module _ (first f : F) (from to : S) (old items : List (L × R)) (count : ℕ) (so_far : IsTestedUpTo first f from to old items count) (p : L × R) (is : p ≡ get_or items count p) (inside : count < length items) where
    -- This pair is the next one to be tested.
    position : (tail : List (L × R)) × (so_far.rest ≡ p ∷ tail)
    position = at_end so_far.kept so_far.rest count p so_far.long (subst (λ xs. count < length xs) so_far.left inside) (subst (λ xs. p ≡ get_or xs count p) so_far.left is)

    now : IsParted g has_room receives goes first f from to so_far.tested (p ∷ position.0) so_far.kept
    now = of_same g has_room receives goes first f from to refl position.1 refl so_far.parted

    items_now : items ≡ so_far.kept ++ p ∷ position.0
    items_now = so_far.left ∙ ap (λ xs. so_far.kept ++ xs) position.1

    all_now : old ≡ so_far.tested ++ p ∷ position.0
    all_now = so_far.all ∙ ap (λ xs. so_far.tested ++ xs) position.1

    -- The closure may be called on this pair.
    pub may : MayTestInOrder g first old → MayTestPair g f p
    may test left right l r = test.at so_far.tested so_far.parted.answers f left right position.0 (all_now ∙ ap (λ q. so_far.tested ++ q ∷ position.0) (sym (same_pair p left.now right.now l r))) so_far.parted.calls

    pub room_for : has_room to 1
    room_for = next g has_room receives goes first f from to _ _ _ p now

    module _ (t : F) where
      pub passed : TestedAt g f p (not goes) t → IsTestedUpTo first t from to old items (count + 1)
      passed h = record {
        tested = so_far.tested ++ p ∷ [];
        kept = so_far.kept ++ p ∷ [];
        rest = position.0;
        all = all_now ∙ sym (append_assoc so_far.tested (p ∷ []) position.0);
        left = items_now ∙ sym (append_assoc so_far.kept (p ∷ []) position.0);
        long = omega (arith, so_far.long, length-append so_far.kept (p ∷ []));
        parted = stays g has_room receives goes first f from to _ _ _ p now t h;
      }

      pub taken_out : TestedAt g f p goes t → (items' : List (L × R)) → ((before after : List (L × R)) → items ≡ before ++ p ∷ after → items' ≡ before ++ after) → (to' : S) → receives to p to' → ((n : ℕ) → has_room to (1 + n) → has_room to' n) → IsTestedUpTo first t from to' old items' count
      taken_out h items' without to' received fewer = record {
        tested = so_far.tested ++ p ∷ [];
        kept = so_far.kept;
        rest = position.0;
        all = all_now ∙ sym (append_assoc so_far.tested (p ∷ []) position.0);
        left = without so_far.kept position.0 items_now;
        long = so_far.long;
        parted = goes_out g has_room receives goes first f from to _ _ _ p now t h to' received fewer;
      }

  -- The first `tests` places of an iteration were tested. `next` is the place after those that were kept.
  pub record IsTestedAlong (first f : F) (from to : S) (old items : List (L × R)) (places : List ℕ) (next : Option ℕ) (tests : ℕ) : Type 0 where
    pub rank : ℕ
    pub so_far : IsTestedUpTo first f from to old items rank
    pub here : next ≡ slice_get places rank
    pub count : tests + length items ≡ length old + rank

  module _ (first f : F) (from to : S) (old items : List (L × R)) (places : List ℕ) (next : Option ℕ) (tests : ℕ) (along : IsTestedAlong first f from to old items places next tests) (place : ℕ) (is : next ≡ Some place)
      (p : L × R) (there : p ≡ get_or items along.rank p) (more : tests < length old) (next' : Option ℕ) (after : (k : ℕ) → slice_get places k ≡ Some place → next' ≡ slice_get places (k + 1)) (t : F) where
    at : slice_get places along.rank ≡ Some place
    at = sym along.here ∙ is

    pub stays_along : TestedAt g f p (not goes) t → IsTestedAlong first t from to old items places next' (tests + 1)
    stays_along h = record { rank = along.rank + 1; so_far = passed first f from to old items along.rank along.so_far p there (omega (arith, along.count)) t h; here = after along.rank at; count = omega (arith, along.count) }

    pub goes_along : TestedAt g f p goes t → (items' : List (L × R)) (places' : List ℕ) → AllPairs (λ p q. p ≢ q) items → AllPairs (λ a b. a ≢ b) places → IsTakenOut items p items' → IsTakenOut places place places'
        → (to' : S) → receives to p to' → ((n : ℕ) → has_room to (1 + n) → has_room to' n) → IsTestedAlong first t from to' old items' places' next' (tests + 1)
    goes_along h items' places' apart distinct out place_out to' received fewer =
        record {
          rank = along.rank;
          so_far = taken_out first f from to old items along.rank along.so_far p there (omega (arith, along.count)) t h items' (out_between p items items' apart out) to' received fewer;
          here = after along.rank at ∙ next_at_rank place places places' distinct place_out along.rank at;
          count = omega (arith, along.count, ap length out.stood, ap length out.left, length-append out.before (p ∷ out.after), length-append out.before out.after);
        }

  pub ended : (first f : F) (from to : S) (old items : List (L × R)) (count : ℕ) → IsTestedUpTo first f from to old items count → length items ≤ count → IsPartition g receives goes first old items from to
  ended first f from to old items count so_far end =
      let none : so_far.rest ≡ [] = none_left so_far.kept so_far.rest (omega (arith, ap length so_far.left, so_far.long)) in
      let behind : (xs : List (L × R)) → xs ++ so_far.rest ≡ xs = λ xs. ap (λ z. xs ++ z) none ∙ append-nil xs in
      all_tested g has_room receives goes first f from to _ so_far.rest _
      (of_same g has_room receives goes first f from to (sym (so_far.all ∙ behind so_far.tested)) refl (sym (so_far.left ∙ behind so_far.kept)) so_far.parted)

  -- The same statement about equal lists.
  pub as_listed : (f : F) (from to : S) (old old' left left' : List (L × R)) → old ≡ old' → left ≡ left' → IsPartition g receives goes f old' left' from to → IsPartition g receives goes f old left from to
  as_listed f from to old old' left left' e d h = rw (e, d) h

  pub tested_as_listed : (f : F) (old old' : List (L × R)) → old ≡ old' → MayTestInOrder g f old → MayTestInOrder g f old'
  tested_as_listed f old old' e h = rw e at h

  pub fits_as_listed : (from : S) (old old' : List (L × R)) → old ≡ old' → ((n : ℕ) → n ≤ length old → has_room from n) → (n : ℕ) → n ≤ length old' → has_room from n
  fits_as_listed from old old' e h = rw e at h

-- Iteration over a table by one of its indexes, and what is true of the pairs that it shows.
-- The argument `key` is the side, so each lemma serves both sides.
use Rattle.std.proofs.Common.{◌≡◌, ◌≢◌, ◌↔◌, ◌≤◌, ◌+◌, ◌∙◌, ℕ, Bool, true, false, true≢false, List, [], ◌∷◌, ◌++◌, length, Option, Some, None, IsSome, refl, sym, ap, subst, arith, get_or, Contains, append_assoc}
use Rattle.std.specs.Prelude.{Result, Ok, Err, OnOk, OnErr, max, min}
use denote.Param.Members.{Mut}
use denote.Ref.{Bor}
use Rattle.std.proofs.lemmas.List.{append-nil, get_or_default}
use Rattle.std.specs.List.Sorted.{IsPermutation}
use Rattle.std.proofs.lemmas.List.Sorted.{IsPermutation-trans}
use Rattle.std.proofs.lemmas.Result.{on_err_weaker}
use Rattle.std.specs.List.{All, AllPairs, FoldsTo}
use Rattle.std.specs.Option.{option_map}
use Rattle.std.specs.Cmp.{IsEquivalence, IsTotalOrder}
use Rattle.std.specs.Ordering.{eq_by_cmp}
use Rattle.std.specs.declared.cmp.Ordering.{Ordering}
use Rattle.std.specs.declared.cmp.Ordering.TheVariants.{Less}
use Rattle.bimap_any.specs.Capacity.{IsReservation, IsShrink}
use Rattle.bimap_any.specs.Exchange.{IsWithoutPair}
use Rattle.bimap_base.specs.Holding.{Holding, IsRetention}
use Rattle.bimap_base.specs.Kept.{TestedAt, TestsInOrder, answered_true, MayTest, MayTestInOrder}
use Rattle.bimap_any.specs.Visited.{MayVisit, IsVisited}
use Rattle.bimap_base.specs.declared.refusal.NoMemory.{NoMemory}
use Rattle.bimap_base.specs.PairsAt.{pairs_at}
use Rattle.bimap_base.specs.Places.{pairs_in}
use Rattle.bimap_base.specs.Sets.{IsApart}
use Rattle.bimap_base.specs.Slots.{pair_at, left_at, right_at, IsLive}
use Rattle.bimap_any.proofs.HoldingsAlike.{AreAlike}
use Rattle.bimap_base.proofs.Walk.{IsWalk, walked, long_walked, fits_walked, listed_long, pairs_walked}
use Rattle.bimap_index.specs.ByOrder.{ListsByOrder}
use Rattle.bimap_core.proofs.Ascending.{order_walk, order_ascends}
use Rattle.bimap_core.proofs.Permuted.{walk_apart, walk_permuted}
pub use Rattle.bimap_core.proofs.Positions.{hash_walk, pairs_kept, the_walk}
use Rattle.bimap_core.specs.Partition.{IsPartition, answered_false}
use Rattle.bimap_core.specs.Store.{holding_of}
use Rattle.bimap_core.specs.declared.table.Table.{Table}
use Rattle.bimap_kinds.specs.HeldTable.{held, held_by_right}
use Rattle.bimap_kinds.specs.Sorted.{IsByRight}

-- The holding of a store, where iteration visits these places in this order.
abbrev pub walked_by : {L R : Type 0} → List (Option (L × R)) → List ℕ → Holding L R
walked_by slots places = record { pairs = pairs_at slots places; room = length slots }

module _ {L R : Type 0} (slots : List (Option (L × R))) (places : List ℕ) (walk : IsWalk slots places) where
  pub alike : AreAlike (holding_of slots) (walked_by slots places)
  alike = record { members = walked slots places walk; long = long_walked slots places walk; room = refl }

  -- An index lists as many places as iteration shows pairs.
  pub as_many : (places' : List ℕ) → IsWalk slots places' → length places' ≡ length (pairs_at slots places)
  as_many places' walk' = listed_long slots places' walk' ∙ sym (long_walked slots places walk)

  -- Each listed place has a pair.
  pub all_live : All (IsLive slots) places
  all_live k d inside = (walk.live (get_or places k d)).0 (k, inside, get_or_default places k (get_or places k d) d inside)

  pub ordered : (order : L → L → Ordering) → AllPairs (λ a b. (k l : L) → left_at slots a ≡ Some k → left_at slots b ≡ Some l → order k l ≡ Less) places → AllPairs (λ p q. order p.0 q.0 ≡ Less) (pairs_at slots places)
  ordered order all = pairs_walked slots places walk (λ a b. (k l : L) → left_at slots a ≡ Some k → left_at slots b ≡ Some l → order k l ≡ Less) (λ p q. order p.0 q.0 ≡ Less) (λ a b p q s i j. s p.0 q.0 (ap (option_map (λ x. x.0)) i) (ap (option_map (λ x. x.0)) j)) all

  -- If a pair is removed from the store, it is removed from the pairs of an iteration.
  pub removing_walked : (slots' : List (Option (L × R))) (places' : List ℕ) → IsWalk slots' places' → (p : L × R) → IsWithoutPair (pairs_in slots) p (pairs_in slots') → IsWithoutPair (pairs_at slots places) p (pairs_at slots' places')
  removing_walked slots' places' walk' p h =
      record {
        member = (walked slots places walk p).0 h.member;
        without = λ q. let v = walked slots places walk q in let w = walked slots' places' walk' q in (λ c. let o = (h.without q).0 (w.1 c) in (v.0 o.0, o.1), λ o. w.0 ((h.without q).1 (v.1 o.0, o.1)));
      }

  -- A reservation or a shrink of the store is one of the pairs in the order of iteration, if that order stays.
  module _ (slots' : List (Option (L × R))) (places' : List ℕ) (same : pairs_at slots' places' ≡ pairs_at slots places) where
    same_but_room : (holding_of slots' ≡ holding_of slots) → walked_by slots' places' ≡ walked_by slots places
    same_but_room e i = record { pairs = same i; room = (e i).room }

    pub reservation_walked : (more : ℕ) (r : Result (Unit {0}) NoMemory) → IsReservation (holding_of slots) more r (holding_of slots') → IsReservation (walked_by slots places) more r (walked_by slots' places')
    reservation_walked more r h =
        let long = long_walked slots places walk in
        record {
          ok = subst (λ n. OnOk r (length slots' ≡ max (length slots) (n + more))) (sym long) h.ok;
          pairs = same;
          had_room = λ fits. h.had_room (subst (λ n. n + more ≤ length slots) long fits);
          unchanged = on_err_weaker r same_but_room h.unchanged;
        }

    pub shrink_walked : (least : ℕ) (r : Result (Unit {0}) NoMemory) → IsShrink (holding_of slots) least r (holding_of slots') → IsShrink (walked_by slots places) least r (walked_by slots' places')
    shrink_walked least r h =
        let long = long_walked slots places walk in
        record {
          ok = subst (λ n. OnOk r (length slots' ≡ max n (min least (length slots)))) (sym long) h.ok;
          pairs = same;
          was_so = λ so. h.was_so (subst (λ n. max n (min least (length slots)) ≡ length slots) long so);
          unchanged = on_err_weaker r same_but_room h.unchanged;
        }

  -- If the store has no pair, iteration shows none.
  pub none_walked : pairs_in slots ≡ [] → pairs_at slots places ≡ []
  none_walked none = by (pairs_at slots places) (long_walked slots places walk ∙ ap length none)
    where
      by : (xs : List (L × R)) → length xs ≡ 0 → xs ≡ []
      by [] e = refl
      by (x ∷ xs) e = absurd (omega (arith, e))

-- What `retain` leaves, in the order of iteration.
module _ {F L R : Type 0} (g : Mut F (Bor L × (Bor R × Unit {0})) Bool) {same_left : L → L → Bool} {same_right : R → R → Bool} (equal_left : IsEquivalence same_left) (equal_right : IsEquivalence same_right)
    (slots : List (Option (L × R))) (places : List ℕ) (walk : IsWalk slots places) (apart : IsApart same_left same_right (pairs_in slots)) where
  pub may_test_walked : (f : F) → MayTest g f (pairs_at slots places) → MayTestInOrder g f (pairs_in slots)
  may_test_walked f may =
      record { at = λ ps bs later left right rest is calls. may.at ps bs later left right rest (subst (IsPermutation (pairs_at slots places)) is (walk_permuted equal_left equal_right slots places walk apart)) calls }

  pub retention_walked : {S : Type 0} {receives : S → L × R → S → Type 0} {from to : S} (f : F) (slots' : List (Option (L × R))) (places' : List ℕ) → IsWalk slots' places' → IsPartition g receives false f (pairs_in slots) (pairs_in slots') from to → length slots' ≡ length slots → IsRetention g (walked_by slots places) f (walked_by slots' places')
  retention_walked f slots' places' walk' h room =
      record {
        kept = record {
          order = pairs_in slots;
          answers = h.answers;
          last = h.last;
          each_once = walk_permuted equal_left equal_right slots places walk apart;
          calls = h.calls;
          kept = λ q. let w = walked slots' places' walk' q in (λ c. subst (λ xs. Contains xs q) h.kept (w.1 c), λ c. w.0 (subst (λ xs. Contains xs q) (sym h.kept) c));
        };
        room = room;
      }

-- What `for_each` visits, in the order of iteration.
module _ {F L R : Type 0} (g : Mut F (Bor L × (Bor R × Unit {0})) (Unit {0})) {same_left : L → L → Bool} {same_right : R → R → Bool} (equal_left : IsEquivalence same_left) (equal_right : IsEquivalence same_right)
    (slots : List (Option (L × R))) (places : List ℕ) (walk : IsWalk slots places) (apart : IsApart same_left same_right (pairs_in slots)) where
  pub may_visit_walked : (f : F) → MayVisit g f (pairs_at slots places) → MayVisit g f (pairs_in slots)
  may_visit_walked f may =
      record { at = λ ps later left right rest moved calls. may.at ps later left right rest (IsPermutation-trans (pairs_at slots places) (pairs_in slots) (ps ++ (left.now, right.now) ∷ rest) (walk_permuted equal_left equal_right slots places walk apart) moved) calls }

  pub visited_walked : (f : F) → IsVisited g f (pairs_in slots) → IsVisited g f (pairs_at slots places)
  visited_walked f h =
      record {
        order = h.order;
        last = h.last;
        each_once = IsPermutation-trans (pairs_at slots places) (pairs_in slots) h.order (walk_permuted equal_left equal_right slots places walk apart) h.each_once;
        calls = h.calls;
      }

-- The invariants of a map, expressed by the pairs that its table contains.
abbrev pub AreFacts : {L R : Type 0} → (L → L → Bool) → (R → R → Bool) → (L → L → Ordering) → Holding L R → List ℕ → List ℕ → Type 0
AreFacts same_left same_right order holding places places' = record {
  apart : IsApart same_left same_right holding.pairs;
  ascending : AllPairs (λ p q. order p.0 q.0 ≡ Less) holding.pairs;
  fits : length holding.pairs ≤ holding.room;
  lefts : length places ≡ length holding.pairs;
  rights : length places' ≡ length holding.pairs;
}

-- The pairs of an iteration by left satisfy these invariants.
pub facts_walked : {L R : Type 0} {same_left : L → L → Bool} {same_right : R → R → Bool} → IsEquivalence same_left → IsEquivalence same_right → (order : L → L → Ordering) (slots : List (Option (L × R))) (places : List ℕ) → IsWalk slots places → AllPairs (λ p q. order p.0 q.0 ≡ Less) (pairs_at slots places) → (places' : List ℕ) → IsWalk slots places' → IsApart same_left same_right (pairs_in slots) → AreFacts same_left same_right order (walked_by slots places) places places'
facts_walked lefts rights order slots places walk ascending places' walk' apart = record {
  apart = walk_apart lefts rights slots places walk apart;
  ascending = ascending;
  fits = fits_walked slots places walk;
  lefts = as_many slots places walk places walk;
  rights = as_many slots places walk places' walk';
}

module _ {L R I J LeftSpot LeftSearch RightSpot RightSearch : Type 0} {left_eq : _} {right_eq : _} {left : _} {right : _} (table : Table L R I J LeftSpot LeftSearch RightSpot RightSearch left_eq right_eq left right) where
  -- The same statements, given the laws of the left index.
  module _ (listed : (index : I) (f : ℕ → Option L) → left.is_listing index f → (p : ℕ) → Contains (left.places index) p ↔ IsSome (f p)) (distinct : (index : I) (f : ℕ → Option L) → left.is_listing index f → AllPairs (λ a b. a ≢ b) (left.places index)) (settled : (index : I) (f : ℕ → Option L) → ∥ left.is_listing index f ∥₁ → left.is_listing index f) where
    pub left_walk : IsWalk table.pairs (left.places table.left)
    left_walk = the_walk (λ p. p.0) left.is_listing left.places listed distinct settled table.pairs table.left table.left_listing

    pub table_alike : AreAlike (holding_of table.pairs) (held table)
    unfolding held
    table_alike = alike table.pairs (left.places table.left) left_walk

    pub table_facts : ((index : I) (f : ℕ → Option L) → left.is_listing index f → AllPairs (λ a b. (k l : L) → f a ≡ Some k → f b ≡ Some l → left.walk_order index k l ≡ Less) (left.places index)) → IsEquivalence left_eq.eq → IsEquivalence right_eq.eq → (places' : List ℕ) → IsWalk table.pairs places' → AreFacts left_eq.eq right_eq.eq (left.walk_order table.left) (held table) (left.places table.left) places'
    unfolding held
    table_facts in_order lefts rights places' walk' =
        facts_walked lefts rights (left.walk_order table.left) table.pairs (left.places table.left) left_walk
        (ordered table.pairs (left.places table.left) left_walk (left.walk_order table.left) (in_order table.left _ (settled table.left _ table.left_listing))) places' walk' table.apart

  -- The same statement, given the laws of the right index.
  pub right_walk : ((index : J) (f : ℕ → Option R) → right.is_listing index f → (p : ℕ) → Contains (right.places index) p ↔ IsSome (f p)) → ((index : J) (f : ℕ → Option R) → right.is_listing index f → AllPairs (λ a b. a ≢ b) (right.places index)) → ((index : J) (f : ℕ → Option R) → ∥ right.is_listing index f ∥₁ → right.is_listing index f) → IsWalk table.pairs (right.places table.right)
  right_walk listed distinct settled = the_walk (λ p. p.1) right.is_listing right.places listed distinct settled table.pairs table.right table.right_listing

  -- Iteration by an ordered right shows the same pairs in ascending order of their rights.
  pub sorted_walk : {order : R → R → Ordering} {same : R → R → Bool} → IsTotalOrder order → ((x y : R) → same x y ≡ eq_by_cmp order x y) → IsWalk table.pairs (left.places table.left) → ∥ ListsByOrder order (right.places table.right) (right_at table.pairs) ∥₁ → IsByRight order (held table).pairs (held_by_right table)
  unfolding held held_by_right
  sorted_walk {order} {same} total agrees walk h =
      let slots = table.pairs in
      let walk' = order_walk (λ p. p.1) total agrees slots (right.places table.right) h in
      record {
        same = λ p. let v = walked slots _ walk p in let w = walked slots _ walk' p in (λ c. w.0 (v.1 c), λ c. v.0 (w.1 c));
        ascends = order_ascends (λ p. p.1) total agrees slots (right.places table.right) h;
        count = long_walked slots _ walk' ∙ sym (long_walked slots _ walk);
      }

  -- If the store and the listed places are the same, so are the contained pairs.
  module _ (after : Table L R I J LeftSpot LeftSearch RightSpot RightSearch left_eq right_eq left right) where
    pub held_same : after.pairs ≡ table.pairs → left.places after.left ≡ left.places table.left → held after ≡ held table
    unfolding held
    held_same e f = λ i. record { pairs = pairs_at (e i) (f i); room = length (e i) }

    pub held_unchanged : {T E : Type 0} (r : Result T E) → OnErr r (after.pairs ≡ table.pairs) → OnErr r (left.places after.left ≡ left.places table.left) → OnErr r (held after ≡ held table)
    held_unchanged (Ok x) e f = tt
    held_unchanged (Err x) e f = held_same e f

-- A list to which all items were pushed, one after another.
pub pushed : {V X : Type 0} (v : V) (items : V → List X) (xs : List X) (w : V) → FoldsTo (λ a x b. items b ≡ items a ++ x ∷ []) v xs w → items w ≡ items v ++ xs
pushed v items [] w h = ap items (sym h) ∙ sym (append-nil (items v))
pushed v items (x ∷ xs) w h = pushed h.0 items xs w h.2 ∙ ap (λ z. z ++ xs) h.1 ∙ append_assoc (items v) (x ∷ []) xs

-- If the closure always returns `true`, it returned `true` on all pairs.
module _ {F L R : Type 0} (g : Mut F (Bor L × (Bor R × Unit {0})) Bool) (yes : (f : F) (p : L × R) (b : Bool) (f' : F) → TestedAt g f p b f' → b ≡ true) where
  pub all_true : (f : F) (ps : List (L × R)) (bs : List Bool) (last : F) → TestsInOrder g f ps bs last → answered_true g ps bs ≡ ps
  all_true f [] bs last h = refl
  all_true f (p ∷ ps) [] last h = absurd h
  all_true f (p ∷ ps) (true ∷ bs) last h = ap (λ xs. p ∷ xs) (all_true h.0 ps bs last h.2)
  all_true f (p ∷ ps) (false ∷ bs) last h = absurd (true≢false (sym (yes f p false h.0 h.1)))

  pub none_false : (f : F) (ps : List (L × R)) (bs : List Bool) (last : F) → TestsInOrder g f ps bs last → answered_false g ps bs ≡ []
  none_false f [] bs last h = refl
  none_false f (p ∷ ps) [] last h = absurd h
  none_false f (p ∷ ps) (true ∷ bs) last h = none_false h.0 ps bs last h.2
  none_false f (p ∷ ps) (false ∷ bs) last h = absurd (true≢false (sym (yes f p false h.0 h.1)))

-- Iteration over a store by an ordered side, and what one removal leaves of it.
use Rattle.std.proofs.Common.{◌≡◌, ◌≢◌, ◌↔◌, ◌∙◌, ℕ, ◌<◌, Bool, List, ◌∷◌, ◌++◌, length, get_or, slice_get, take, drop, suc, ◌≤◌, inl, inr, Option, Some, None, is_some, refl, sym, ap, subst, arith, true≢false, Contains, drop-cons}
use Rattle.std.specs.Prelude.{slice_set}
use Rattle.std.specs.List.{All, AllPairs}
use Rattle.std.specs.Option.{option_map}
use Rattle.std.specs.Cmp.{IsEquivalence, IsTotalOrder}
use Rattle.std.specs.Ordering.{eq_by_cmp, ordering_reverse}
use Rattle.std.specs.declared.cmp.Ordering.{Ordering}
use Rattle.std.specs.declared.cmp.Ordering.TheVariants.{Less, Greater}
use Rattle.std.proofs.lemmas.Bool.{cases_lt}
use Rattle.std.proofs.lemmas.List.{get_or-set_same, get_or-set_other, length-set, take-append-drop, take_all, drop_all, append-nil}
use Rattle.std.proofs.lemmas.Option.{slice_get-get_or, slice_get_past, slice_get_within, get_or_from_slice_get}
use Rattle.bimap_any.specs.Exchange.{IsWithoutPair}
use Rattle.bimap_base.specs.PairsAt.{pairs_at}
use Rattle.bimap_base.specs.Places.{pairs_in}
use Rattle.bimap_base.specs.Sets.{IsApart}
use Rattle.bimap_base.specs.Slots.{pair_at, IsLive, pair_count}
use Rattle.bimap_base.proofs.Walk.{IsWalk, walk_of, pairs_walked, long_at, count_walked, read_at, listed_at, place_listed, some_at, walked, held_at}
use Rattle.bimap_index.specs.ByOrder.{ListsByOrder}
use Rattle.bimap_index.specs.OrderLaws.{order_settled, order_listed, order_distinct, order_in_order}
use Rattle.bimap_core.specs.Ranks.{IsTakenAtRank}
use Rattle.bimap_core.proofs.Inserting.{left_of_two}
use Rattle.bimap_core.proofs.OneOut.{one_out}
use Rattle.bimap_core.proofs.Places.{apart_at_places, live_within}

module _ {P K : Type 0} (key : P → K) {order : K → K → Ordering} {same : K → K → Bool} (total : IsTotalOrder order) (agrees : (x y : K) → same x y ≡ eq_by_cmp order x y) (slots : List (Option P)) (places : List ℕ) (listing : ∥ ListsByOrder order places (λ place. option_map key (pair_at slots place)) ∥₁) where
  settled : ListsByOrder order places (λ place. option_map key (pair_at slots place))
  settled = order_settled order same total agrees places (λ place. option_map key (pair_at slots place)) listing

  -- An ordered index lists the places of an iteration.
  pub order_walk : IsWalk slots places
  order_walk = walk_of key slots places (order_listed order same total agrees places _ settled) (order_distinct order same total agrees places _ settled)

  -- The keys of its pairs ascend.
  pub order_ascends : AllPairs (λ p q. order (key p) (key q) ≡ Less) (pairs_at slots places)
  order_ascends = pairs_walked slots places order_walk (λ a b. (k l : K) → option_map key (pair_at slots a) ≡ Some k → option_map key (pair_at slots b) ≡ Some l → order k l ≡ Less) (λ p q. order (key p) (key q) ≡ Less) (λ a b p q s i j. s (key p) (key q) (ap (option_map key) i) (ap (option_map key) j)) (order_in_order order same total agrees places _ settled)

-- The number of listed places is the number of pairs.
pub count_listed : {P : Type 0} (slots : List (Option P)) (places : List ℕ) → IsWalk slots places → length places ≡ pair_count slots
count_listed slots places walk = sym (long_at slots places (λ place. (walk.live place).0)) ∙ count_walked slots places walk

-- There is a pair at each listed place.
pub live_listed : {P : Type 0} (slots : List (Option P)) (places : List ℕ) → All (IsLive slots) places → (place : ℕ) → Contains places place → IsLive slots place
live_listed slots places all place c = subst (IsLive slots) c.2 (all c.0 place c.1)

module _ {P : Type 0} (slots : List (Option P)) (places : List ℕ) (live : (place : ℕ) → Contains places place → IsLive slots place) where
  past_rank : (rank : ℕ) → slice_get places rank ≡ None → length (pairs_at slots places) ≤ rank
  past_rank rank is = subst (λ n. n ≤ rank) (sym (long_at slots places live)) (elim (cases_lt rank (length places)) [
    | inl inside ↦ absurd (let e : None ≡ Some (get_or places rank 0) = sym is ∙ slice_get-get_or places rank 0 inside in cc)
    | inr past ↦ past
  ])

  -- If no place has this rank, no pair has it.
  pub none_at_rank : (rank : ℕ) → slice_get places rank ≡ None → slice_get (pairs_at slots places) rank ≡ None
  none_at_rank rank is = slice_get_past (pairs_at slots places) rank (past_rank rank is)

  -- If no place has this rank, nothing is removed.
  pub all_kept : (rank : ℕ) → slice_get places rank ≡ None → pairs_at slots places ≡ take rank (pairs_at slots places) ++ drop (suc rank) (pairs_at slots places)
  all_kept rank is =
      let past = past_rank rank is in
      sym (ap (λ xs. take rank (pairs_at slots places) ++ xs) (drop_all (suc rank) (pairs_at slots places) (omega arith)) ∙ append-nil (take rank (pairs_at slots places)) ∙ take_all rank (pairs_at slots places) past)

  module _ (rank place : ℕ) (is : slice_get places rank ≡ Some place) where
    within : rank < length places
    within = slice_get_within places rank place is

    at_rank : get_or places rank place ≡ place
    at_rank = get_or_from_slice_get places rank place place is

    -- There is a pair at the place of a rank.
    pub live_at_rank : IsLive slots place
    live_at_rank = live place (rank, within, at_rank)

    pub rank_live : (p : P) × (pair_at slots place ≡ Some p)
    rank_live = some_at (pair_at slots place) live_at_rank

    module _ (p : P) (has : pair_at slots place ≡ Some p) where
      -- The pair at the place is the pair with that rank.
      pub pair_at_rank : p ≡ get_or (pairs_at slots places) rank p
      pair_at_rank =
          let read = read_at slots places live rank place p within in
          let here = ap (pair_at slots) at_rank ∙ has in
          cc

      pub inside : rank < length (pairs_at slots places)
      inside = omega (arith, within, long_at slots places live)

      pub some_at_rank : slice_get (pairs_at slots places) rank ≡ Some p
      some_at_rank = slice_get-get_or (pairs_at slots places) rank p inside ∙ ap Some (sym pair_at_rank)

      -- The pairs before it, the pair, and the pairs after it are all pairs.
      pub parted_at_rank : pairs_at slots places ≡ take rank (pairs_at slots places) ++ p ∷ drop (suc rank) (pairs_at slots places)
      parted_at_rank = sym (take-append-drop rank (pairs_at slots places)) ∙ ap (λ xs. take rank (pairs_at slots places) ++ xs) (drop-cons (pairs_at slots places) rank p inside ∙ ap (λ q. q ∷ drop (suc rank) (pairs_at slots places)) (sym pair_at_rank))

module _ {L R K : Type 0} {same_left : L → L → Bool} {same_right : R → R → Bool} (equal_left : IsEquivalence same_left) (equal_right : IsEquivalence same_right) (key : L × R → K) {order : K → K → Ordering} {same : K → K → Bool} (total : IsTotalOrder order) (agrees : (x y : K) → same x y ≡ eq_by_cmp order x y)
    (slots slots' : List (Option (L × R))) (places places' : List ℕ) (listing : ∥ ListsByOrder order places (λ place. option_map key (pair_at slots place)) ∥₁) (listing' : ∥ ListsByOrder order places' (λ place. option_map key (pair_at slots' place)) ∥₁) (apart : IsApart same_left same_right (pairs_in slots))
    (place : ℕ) (p : L × R) (was : pair_at slots place ≡ Some p) (now : slots' ≡ slice_set slots place None) where
  walk : IsWalk slots places
  walk = order_walk key total agrees slots places listing

  walk' : IsWalk slots' places'
  walk' = order_walk key total agrees slots' places' listing'

  gone : pair_at slots' place ≡ None
  gone = ap (λ z. pair_at z place) now ∙ get_or-set_same slots place None None (live_within slots place p was)

  off : (a : ℕ) → a ≢ place → pair_at slots' a ≡ pair_at slots a
  off a away = ap (λ z. pair_at z a) now ∙ get_or-set_other slots place a None None away

  -- The remaining pairs are the others.
  others : (q : L × R) → Contains (pairs_at slots' places') q ↔ (Contains (pairs_at slots places) q × (q ≢ p))
  others q = (
    λ c.
        let a = place_listed slots' places' q c in
        let away : a.0 ≢ place = λ e. let i : None ≡ Some q = sym gone ∙ ap (pair_at slots') (sym e) ∙ a.1 in cc in
        let here = sym (off a.0 away) ∙ a.1 in
        (listed_at slots places a.0 q ((walk.live a.0).1 (ap is_some here)) here, λ e. true≢false (sym (left_of_two (same_left q.0 p.0) (same_right q.1 p.1) (ap (λ z. same_left q.0 z.0) (sym e) ∙ equal_left.refl q.0)) ∙ apart_at_places same_left same_right equal_left equal_right slots apart a.0 place q p away here was)),
    λ w.
        let a = place_listed slots places q w.0 in
        let away : a.0 ≢ place = λ e. w.1 (let i : Some q ≡ Some p = sym a.1 ∙ ap (pair_at slots) e ∙ was in cc) in
        let here = off a.0 away ∙ a.1 in
        listed_at slots' places' a.0 q ((walk'.live a.0).1 (ap is_some here)) here,
  )

  -- No two keys are each below the other.
  strict : (x y : L × R) → order (key x) (key y) ≡ Less → order (key y) (key x) ≡ Less → ⊥
  strict x y e f = let h = total.antisymm (key x) (key y) in let k : ordering_reverse (order (key y) (key x)) ≡ Greater = ap ordering_reverse f in absurd (cc)

  -- The remaining pairs keep their order.
  pub walked_without : (before after : List (L × R)) → pairs_at slots places ≡ before ++ p ∷ after → pairs_at slots' places' ≡ before ++ after
  walked_without before after is =
      one_out (λ p q. order (key p) (key q) ≡ Less) strict before p after (pairs_at slots' places')
      (subst (AllPairs (λ p q. order (key p) (key q) ≡ Less)) is (order_ascends key total agrees slots places listing))
      (order_ascends key total agrees slots' places' listing')
      (λ q. subst (λ xs. Contains (pairs_at slots' places') q ↔ (Contains xs q × (q ≢ p))) is (others q))

  -- The store has the pairs without the removed one.
  pub store_without : IsWithoutPair (pairs_in slots) p (pairs_in slots')
  store_without =
      record {
        member = held_at slots place p was;
        without = λ q. (
          λ c. let w = (others q).0 ((walked slots' places' walk' q).0 c) in ((walked slots places walk q).1 w.0, w.1),
          λ w. (walked slots' places' walk' q).1 ((others q).1 ((walked slots places walk q).0 w.0, w.1)),
        );
      }

  live : (place : ℕ) → Contains places place → IsLive slots place
  live place = (walk.live place).0

  -- The pair with this rank was removed.
  pub taken_ranked : (rank : ℕ) → slice_get places rank ≡ Some place → IsTakenAtRank slots places rank (Some p) slots' places'
  taken_ranked rank at = record {
    pair = sym (some_at_rank slots places live rank place at p was);
    rest = walked_without (take rank (pairs_at slots places)) (drop (suc rank) (pairs_at slots places)) (parted_at_rank slots places live rank place at p was);
    removed = store_without;
    room = ap length now ∙ length-set slots place None;
  }

-- If no place has this rank, no pair was removed.
pub none_taken : {L R : Type 0} (slots : List (Option (L × R))) (places : List ℕ) → IsWalk slots places → (rank : ℕ) → slice_get places rank ≡ None → IsTakenAtRank slots places rank None slots places
none_taken slots places walk rank is =
    let live : (place : ℕ) → Contains places place → IsLive slots place = λ place. (walk.live place).0 in
    record { pair = sym (none_at_rank slots places live rank is); rest = all_kept slots places live rank is; removed = tt; room = refl }

-- Why the laws of an index are true of an ordered one.
use Rattle.std.specs.Prelude.{◌≡◌, ◌≢◌, ◌↔◌, ◌⊎◌, ℕ, Bool, true, List, [], ◌∷◌, Option, Some, None, IsSome}
use Rattle.std.proofs.Common.{get_or, refl, sym, ap, subst, ◌∙◌, inl, inr, arith, true≢false}
use Rattle.std.specs.List.{AllPairs, Contains}
use Rattle.std.specs.declared.cmp.Ordering.{Ordering}
use Rattle.std.specs.declared.cmp.Ordering.TheVariants.{Equal, Less, Greater}
use Rattle.std.specs.Cmp.{IsTotalOrder, Equal-is}
use Rattle.std.specs.Ordering.{eq_by_cmp, ordering_reverse}
use Rattle.std.proofs.lemmas.Bool.{cases_eq}
use Rattle.std.proofs.lemmas.Cmp.{alike_right, tied_back, tied_itself}
use Rattle.std.proofs.lemmas.List.{get_or_default}
use Rattle.std.proofs.Math.Logic.{∥∥₁_elim, ∥∥₁_map}
use Rattle.std.proofs.Props.{props}
use Rattle.bimap_base.specs.Keyed.{Ascends}
use Rattle.bimap_base.specs.Slots.{pair_at}
use Rattle.bimap_base.specs.Places.{pairs_in}
use Rattle.bimap_base.specs.PairsAt.{pairs_at}
use Rattle.bimap_base.proofs.Members.{head_in, more_in, cases_in, none_in}
use Rattle.bimap_base.proofs.Walk.{IsWalk, walked, pairs_walked}
use Rattle.bimap_index.specs.Listed.{IsAlike}
use Rattle.bimap_index.specs.ByOrder.{ListsByOrder}
use Rattle.bimap_index.specs.SameLists.{same_ascending}

-- It is decidable whether a list of numbers contains a number.
pub contains_from : (xs : List ℕ) (x : ℕ) → ∥ Contains xs x ∥₁ → Contains xs x
contains_from [] x c = absurd (∥∥₁_elim c (λ a b. absurd a) (none_in x))
contains_from (y ∷ ys) x c =
    elim (cases_eq y x) [
      | inl same ↦ subst (Contains (y ∷ ys)) same (head_in y ys)
      | inr differs ↦ more_in y ys x (contains_from ys x (∥∥₁_map c (λ w. later differs (cases_in y ys x w))))
    ]
  where
    later : (y ≡ x → ⊥) → (y ≡ x) ⊎ Contains ys x → Contains ys x
    later differs (inl same) = absurd (differs same)
    later differs (inr w) = w

module _ {K : Type 0} (order : K → K → Ordering) (same : K → K → Bool) (total : IsTotalOrder order) (agrees : (x y : K) → same x y ≡ eq_by_cmp order x y) where
  pub equal_from : (x y : K) → order x y ≡ Equal → same x y ≡ true
  equal_from x y e = agrees x y ∙ (Equal-is (order x y)).1 e

  -- Equal keys compare as equal.
  pub equal_to : (x y : K) → same x y ≡ true → order x y ≡ Equal
  equal_to x y e = (Equal-is (order x y)).0 (sym (agrees x y) ∙ e)

  some_of : (o : Option K) → IsSome o → (k : K) × (o ≡ Some k)
  some_of None some = absurd (true≢false (sym some))
  some_of (Some k) some = (k, refl)

  -- A listed place has a key.
  pub live_listed : (f : ℕ → Option K) (places : List ℕ) (p : ℕ) → Ascends f order places → Contains places p → IsSome (f p)
  live_listed f places p up listed =
      let here : get_or places listed.0 0 ≡ p = get_or_default places listed.0 0 p listed.1 ∙ listed.2 in
      subst (λ q. IsSome (f q)) here (up.live listed.0 listed.1)

  -- The same places are listed after keys are exchanged for equal ones.
  pub order_respects : (places : List ℕ) (f g : ℕ → Option K) → ((p : ℕ) → IsAlike same (f p) (g p)) → ListsByOrder order places f → ListsByOrder order places g
  order_respects places f g alike listing =
      record {
        up = record {
          live = λ i inside. there (f _) (g _) (alike _) (listing.up.live i inside);
          rises = λ i j x y before inside first second.
              let a = back (f _) (g _) x (alike _) first in
              let b = back (f _) (g _) y (alike _) second in
              let less = listing.up.rises i j a.0 b.0 before inside a.1 b.1 in
              total.congr x a.0 y (tied_back total a.0 x a.2) ∙ alike_right total y b.0 a.0 (tied_back total b.0 y b.2) ∙ less;
        };
        lists = λ q live. listing.lists q (here (f q) (g q) (alike q) live);
      }
    where
      there : (o p : Option K) → IsAlike same o p → IsSome o → IsSome p
      there None p a s = absurd (true≢false (sym s))
      there (Some k) None a s = absurd a
      there (Some k) (Some l) a s = refl

      here : (o p : Option K) → IsAlike same o p → IsSome p → IsSome o
      here None None a s = s
      here None (Some l) a s = absurd a
      here (Some k) p a s = refl

      back : (o p : Option K) (x : K) → IsAlike same o p → p ≡ Some x → (k : K) × (o ≡ Some k) × (order k x ≡ Equal)
      back None None x a e = absurd (cc)
      back None (Some l) x a e = absurd a
      back (Some k) None x a e = absurd a
      back (Some k) (Some l) x a e = let s : l ≡ x = cc in (k, refl, equal_to k x (subst (λ z. same k z ≡ true) s a))

  -- The listed places are exactly those that have a key.
  pub order_listed : (places : List ℕ) (f : ℕ → Option K) → ListsByOrder order places f → (p : ℕ) → Contains places p ↔ IsSome (f p)
  order_listed places f listing p = (live_listed f places p listing.up, listing.lists p)

  -- No place is listed twice.
  pub order_distinct : (places : List ℕ) (f : ℕ → Option K) → ListsByOrder order places f → AllPairs (λ a b. a ≢ b) places
  order_distinct places f listing i j d before inside e =
      let k = some_of (f (get_or places i 0)) (listing.up.live i (omega arith)) in
      let same_place : get_or places j 0 ≡ get_or places i 0 = get_or_default places j 0 d inside ∙ sym e ∙ get_or_default places i d 0 (omega arith) in
      let less = listing.up.rises i j k.0 k.0 before inside k.1 (ap f same_place ∙ k.1) in
      let itself = tied_itself total k.0 in
      absurd (cc)

  -- The keys of the listed places ascend.
  pub order_in_order : (places : List ℕ) (f : ℕ → Option K) → ListsByOrder order places f → AllPairs (λ a b. (k l : K) → f a ≡ Some k → f b ≡ Some l → order k l ≡ Less) places
  order_in_order places f listing i j d before inside k l first second =
      listing.up.rises i j k l before inside (ap f (get_or_default places i 0 d (omega arith)) ∙ first) (ap f (get_or_default places j 0 d inside) ∙ second)

  -- There is at most one proof that the index lists a side.
  pub order_settled : (places : List ℕ) (f : ℕ → Option K) → ∥ ListsByOrder order places f ∥₁ → ListsByOrder order places f
  order_settled places f h =
      record {
        up = record {
          live = λ i inside. ∥∥₁_elim h (hlevel props) (λ k. k.up.live i inside);
          rises = λ i j k l before inside first second. ∥∥₁_elim h (hlevel props) (λ w. w.up.rises i j k l before inside first second);
        };
        lists = λ place live. contains_from places place (∥∥₁_map h (λ k. k.lists place live));
      }

  -- The places are those of an iteration, which visits each place that has a key once.
  pub order_walk_of : (places : List ℕ) (keys : List (Option K)) → ListsByOrder order places (pair_at keys) → IsWalk keys places
  order_walk_of places keys listing = record { live = order_listed places (pair_at keys) listing; distinct = order_distinct places (pair_at keys) listing }

  ascending_of : (places : List ℕ) (keys : List (Option K)) → ListsByOrder order places (pair_at keys) → AllPairs (λ k l. order k l ≡ Less) (pairs_at keys places)
  ascending_of places keys listing =
      pairs_walked keys places (order_walk_of places keys listing) (λ a b. (k l : K) → pair_at keys a ≡ Some k → pair_at keys b ≡ Some l → order k l ≡ Less) (λ k l. order k l ≡ Less) (λ a b k l less i j. less k l i j) (order_in_order places (pair_at keys) listing)

  -- No two keys are each below the other.
  strict : (k l : K) → order k l ≡ Less → order l k ≡ Less → ⊥
  strict k l e f = let h = total.antisymm k l in let r : ordering_reverse (order l k) ≡ Greater = ap ordering_reverse f in absurd (cc)

  -- Two ordered indexes of the same keys iterate alike.
  pub order_walks_alike : (places places' : List ℕ) (keys keys' : List (Option K)) → ListsByOrder order places (pair_at keys) → ListsByOrder order places' (pair_at keys') → pairs_in keys' ≡ pairs_in keys → pairs_at keys' places' ≡ pairs_at keys places
  order_walks_alike places places' keys keys' listing listing' alike =
      same_ascending (λ k l. order k l ≡ Less) strict (pairs_at keys' places') (pairs_at keys places) (ascending_of places' keys' listing') (ascending_of places keys listing) (λ k.
      let old = walked keys places (order_walk_of places keys listing) k in
      let new = walked keys' places' (order_walk_of places' keys' listing') k in (
        λ c. old.0 (subst (λ ks. Contains ks k) alike (new.1 c)),
        λ c. new.0 (subst (λ ks. Contains ks k) (sym alike) (old.1 c)),
      ))

-- How an ordered index keeps listing a side. A side is a function from places to keys.
use Rattle.std.proofs.Common.{get_or, ◌≡◌, ℕ, zero, suc, ◌+◌, ◌*◌, ◌^◌, ◌<◌, ◌≤◌, Bool, true, false, List, length, Option, Some, None, is_some, IsSome, refl, sym, ap, subst, ◌∙◌, inl, inr, arith, true≢false, Contains}
use Rattle.std.specs.Prelude.{IfSome, IfNone, IsSomeAnd}
use Rattle.std.specs.declared.cmp.Ordering.{Ordering}
use Rattle.std.specs.declared.cmp.Ordering.TheVariants.{Less, Equal, Greater}
use Rattle.std.specs.Cmp.{IsTotalOrder, Equal-is}
use Rattle.std.specs.Ordering.{is_eq, eq_by_cmp}
use Rattle.std.proofs.lemmas.Bool.{cases_eq}
use Rattle.std.proofs.lemmas.List.{get_or_default}
use Rattle.bimap_base.specs.Digits.{bits, most_height}
use Rattle.bimap_base.specs.Keyed.{standing, Ascends, Follows, Adds, Drops}
use Rattle.bimap_base.specs.QueryLaws.{follows_itself}
use Rattle.bimap_base.proofs.Digits.{bits-enough, bits-least}
use Rattle.bimap_tree.specs.IndexView.{IndexView}
use Rattle.bimap_tree.specs.Route.{IsRoute}
use Rattle.bimap_tree.specs.declared.route.Route.{Route}
use Rattle.bimap_tree.proofs.Ascending.{only_one}
use Rattle.bimap_tree.proofs.Routes.{IsRoute-alike}
use Rattle.bimap_index.specs.Listed.{IsFoundBy, IsWithout, MayLink}
use Rattle.bimap_index.specs.ByOrder.{ListsByOrder}
use Rattle.bimap_index.specs.OrderLaws.{equal_from, live_listed}

-- A search among fewer places takes no more comparisons.
pub effort_least : (n m : ℕ) → n ≤ m → most_height n ≤ most_height m
effort_least n m fewer = omega (arith, bits-least n (bits m) (omega (arith, fewer, bits-enough m)))

-- The same is true after one place was taken out.
pub effort_fewer : (n m : ℕ) → n + 1 ≡ m → most_height n ≤ most_height m
effort_fewer n m fewer = effort_least n m (omega (arith, fewer))

listed_there : (places : List ℕ) (i : ℕ) → i < length places → Contains places (get_or places i 0)
listed_there places i inside = (i, inside, get_or_default places i (get_or places i 0) 0 inside)

-- An ordering that is not `Equal` is `Less` or `Greater`.
pub not_equal : (o : Ordering) → (o ≡ Equal → ⊥) → false ≡ is_eq o
not_equal Less never = refl
not_equal Equal never = absurd (never refl)
not_equal Greater never = refl

not_true : (b : Bool) → (b ≡ true → ⊥) → b ≡ false
not_true true never = absurd (never refl)
not_true false _ = refl

module _ {K Q : Type 0} (to : K → Q → Ordering) where
  -- If a place stands equal to a key, the place has a key that compares as equal.
  pub equal_is : (o : Option K) (key : Q) → standing to o (Some key) ≡ Equal → (k : K) × (o ≡ Some k) × (to k key ≡ Equal)
  equal_is None key e = absurd (cc)
  equal_is (Some k) key e = (k, refl, e)

module _ {K Q : Type 0} (order : K → K → Ordering) (to : K → Q → Ordering) (follows : Follows order to) (same : K → Q → Bool) (agrees : (q : Q) (x : K) → same x q ≡ is_eq (to x q)) where
  -- If the key of a place is the same as another key, the place stands equal to that key.
  stands : (o : Option K) (k : K) (key : Q) → o ≡ Some k → same k key ≡ true → standing to o (Some key) ≡ Equal
  stands o k key is e = rw is ((Equal-is (to k key)).0 (sym (agrees key k) ∙ e))

  -- What an ordered search finds is what `IsFoundBy` demands.
  pub found_by_order : (places : List ℕ) (f : ℕ → Option K) (key : Q) (r : Option ℕ) → ListsByOrder order places f
      → IfSome r (λ p. Contains places p × (standing to (f p) (Some key) ≡ Equal))
      → IfNone r ((p : ℕ) → Contains places p → standing to (f p) (Some key) ≡ Equal → ⊥) → IsFoundBy f same key r
  found_by_order places f key None listing found none =
      record {
        here = tt;
        elsewhere = λ place k away is. not_true (same k key) (λ e. none place (listing.lists place (ap is_some is)) (stands (f place) k key is e));
      }
  found_by_order places f key (Some p) listing found none =
      let (k, is, equal) = equal_is to (f p) key found.1 in
      record {
        here = subst (λ z. IsSomeAnd z (λ k. same k key ≡ true)) (sym is) (agrees key k ∙ (Equal-is (to k key)).1 equal);
        elsewhere = λ place l away has. not_true (same l key)
            (λ e. away (ap Some (only_one f order to follows places listing.up key p place found.0 (listing.lists place (ap is_some has)) found.1 (stands (f place) l key has e))));
      }

module _ {K : Type 0} (order : K → K → Ordering) (same : K → K → Bool) (total : IsTotalOrder order) (agrees : (x y : K) → same x y ≡ eq_by_cmp order x y) where
  -- If the keys of the listed places are as before, they still ascend.
  ascends_same : (f g : ℕ → Option K) (places : List ℕ) → ((p : ℕ) → Contains places p → g p ≡ f p) → Ascends f order places → Ascends g order places
  ascends_same f g places kept up =
      record {
        live = λ i inside. rw (kept (get_or places i 0) (listed_there places i inside)) (up.live i inside);
        rises = λ i j k l before inside first second.
            let e = kept (get_or places i 0) (listed_there places i (omega arith)) in
            let h = kept (get_or places j 0) (listed_there places j inside) in
            up.rises i j k l before inside (sym e ∙ first) (sym h ∙ second);
      }

  -- A place whose key compares as equal is the place with an equal key.
  pub known_by_order : (places : List ℕ) (f : ℕ → Option K) (key : K) (place : ℕ) → ListsByOrder order places f → IsSome (f place) → standing order (f place) (Some key) ≡ Equal → IsFoundBy f same key (Some place)
  known_by_order places f key place listing live e = found_by_order order order (follows_itself total) same (λ q x. agrees x q) places f key (Some place) listing (listing.lists place live, e) tt

  -- A key is the same exactly if it compares as equal.
  pub same_by_order : (o : Option K) (key : K) (answer : Bool) → answer ≡ is_eq (standing order o (Some key)) → IfSome o (λ k. answer ≡ same k key)
  same_by_order None key answer e = tt
  same_by_order (Some k) key answer e = e ∙ sym (agrees k key)

  -- If a place is listed, the bound of a search is at least one comparison.
  pub effort_some : (places : List ℕ) (f : ℕ → Option K) (place : ℕ) → ListsByOrder order places f → IsSome (f place) → 1 ≤ most_height (length places)
  effort_some places f place listing live = let c = listing.lists place live in by_bits (bits (length places)) (bits-enough (length places)) (omega (arith, c.1))
    where
      by_bits : (k : ℕ) → length places < 2 ^ k → 0 < length places → 1 ≤ 2 * k
      by_bits zero e some = absurd (omega (arith, some, e))
      by_bits (suc k) e some = omega arith

  -- The lemmas for listing one more place.
  module _ (index : IndexView) (g : ℕ → Option K) (place : ℕ) (key : K) (m : MayLink (λ o. ListsByOrder order (IndexView.places o)) same index g place key) where
    pub link_off : Contains index.places place → ⊥
    link_off there = true≢false (sym (live_listed order same total agrees m.f index.places place m.listing.up there) ∙ ap is_some m.without.free)

    others : (q : ℕ) → Contains index.places q → g q ≡ m.f q
    others q there = m.without.others q (λ at. link_off (subst (Contains index.places) at there))

    pub link_unequal : (p : ℕ) (k : K) → Contains index.places p → g place ≡ Some k → standing order (g p) (Some k) ≡ Equal → ⊥
    link_unequal p k there is e =
        let s = equal_is order (g p) k e in
        let alike : key ≡ k = let l = m.live in cc in
        let no = m.absent p s.0 (λ at. link_off (subst (Contains index.places) at there)) s.1 in
        true≢false (sym (equal_from order same total agrees s.0 k s.2) ∙ ap (same s.0) (sym alike) ∙ no)

    pub link_route : (spot : Route) → IsRoute index (λ q. standing order (m.f q) (Some key)) spot → (k : K) → g place ≡ Some k → IsRoute index (λ q. standing order (g q) (Some k)) spot
    link_route spot leads k is =
        let alike : k ≡ key = let l = m.live in cc in
        IsRoute-alike index _ _ spot (λ q there. ap (λ o. standing order o (Some k)) (others q there) ∙ ap (λ z. standing order (m.f q) (Some z)) alike) leads

    pub linked : (new : List ℕ) → Adds index.places place new → Ascends g order new → ListsByOrder order new g
    linked new adds up =
        record {
          up = up;
          lists = λ q live. elim (cases_eq q place) [
            | inl at ↦ (adds q).1 (inl at)
            | inr away ↦ (adds q).1 (inr (m.listing.lists q (sym (ap is_some (m.without.others q away)) ∙ live)))
          ];
        }

  -- The index still lists the side after a place was taken off.
  pub unlinked : (old new : List ℕ) (f g : ℕ → Option K) (place : ℕ) → ListsByOrder order old g → Drops old place new → Ascends g order new → IsWithout f g place → ListsByOrder order new f
  unlinked old new f g place listing drops up without =
      record {
        up = ascends_same g f new (λ q there. sym (without.others q ((drops q).0 there).1)) up;
        lists = λ q live.
            let away : q ≡ place → ⊥ = λ at. true≢false (sym live ∙ ap (λ z. is_some (f z)) at ∙ ap is_some without.free) in
            (drops q).1 (listing.lists q (ap is_some (without.others q away) ∙ live), away);
      }

  pub unlinked_key : (old new : List ℕ) (g : ℕ → Option K) (r : Option ℕ) → ListsByOrder order old g → IfSome r (λ p. Drops old p new) → Ascends g order new → IfSome r (λ place. (f : ℕ → Option K) → IsWithout f g place → ListsByOrder order new f)
  unlinked_key old new g None listing drops up = tt
  unlinked_key old new g (Some place) listing drops up = λ f without. unlinked old new f g place listing drops up without

-- An ordered index that lists a compacted side again, place by place.
use Rattle.std.proofs.Common.{◌≡◌, ◌≢◌, ◌↔◌, ℕ, suc, ◌+◌, ◌*◌, ◌-◌, ◌<◌, ◌≤◌, Bool, List, [], length, Option, Some, is_some, IsSome, refl, sym, ap, subst, ◌∙◌, inl, inr, arith, Contains}
use Rattle.std.specs.declared.cmp.Ordering.{Ordering}
use Rattle.std.specs.declared.cmp.Ordering.TheVariants.{Equal}
use Rattle.std.specs.Cmp.{IsTotalOrder}
use Rattle.std.specs.Ordering.{eq_by_cmp}
use Rattle.std.proofs.Math.Nat.{suc-mul}
use Rattle.std.proofs.lemmas.Bool.{cases_eq}
use Rattle.std.proofs.lemmas.Cmp.{tied_back}
use Rattle.bimap_base.specs.Keyed.{standing, Ascends, Adds}
use Rattle.bimap_base.specs.Places.{pairs_in}
use Rattle.bimap_base.proofs.Members.{none_in}
use Rattle.bimap_base.proofs.Walk.{listed_long, some_at}
use Rattle.bimap_index.specs.ByOrder.{ListsByOrder}
use Rattle.bimap_index.specs.Listed.{IsCompactedSide}
use Rattle.bimap_index.specs.OrderLaws.{order_walk_of}
use Rattle.bimap_base.specs.QueryLaws.{follows_itself}
use Rattle.bimap_tree.proofs.Ascending.{only_one, own_key}
use Rattle.bimap_index.proofs.Ascending.{equal_is}
use Rattle.bimap_index.proofs.Compaction.{live_in, rank_of, compacted_apart}

-- The places below this number are listed, and no others.
pub record IsListedUpTo {K : Type 0} (order : K → K → Ordering) (f : ℕ → Option K) (place : ℕ) (places : List ℕ) : Type 0 where
  pub up : Ascends f order places
  pub first : (p : ℕ) → Contains places p ↔ p < place
  pub long : length places ≡ place

module _ {K : Type 0} (order : K → K → Ordering) (g : ℕ → Option K) where
  pub none_yet : (places : List ℕ) → places ≡ [] → IsListedUpTo order g 0 places
  none_yet places none = subst (IsListedUpTo order g 0) (sym none) record {
    up = record { live = λ i inside. absurd (omega (arith, inside)); rises = λ i j k l before inside. absurd (omega (arith, inside)) };
    first = λ p. (λ c. none_in p c, λ less. absurd (omega (arith, less)));
    long = refl;
  }

  pub one_more : (place : ℕ) (old new : List ℕ) → IsListedUpTo order g place old → Adds old place new → Ascends g order new → length new ≡ length old + 1 → IsListedUpTo order g (place + 1) new
  one_more place old new listed adds up long =
      record {
        up = up;
        first = λ p. (
          λ c. elim ((adds p).0 c) [ inl e ↦ omega (arith, e) | inr d ↦ omega (arith, (listed.first p).0 d) ],
          λ less. elim (cases_eq p place) [ inl e ↦ (adds p).1 (inl e) | inr away ↦ (adds p).1 (inr ((listed.first p).1 (omega (arith, less, away)))) ],
        );
        long = omega (arith, long, listed.long);
      }

-- If each call costs at most `most`, all calls together cost at most their number times `most`.
pub costs : (start before after calls each most : ℕ) → before ≤ start + calls * most → after ≤ before + each → each ≤ most → after ≤ start + (calls + 1) * most
costs start before after calls each most so_far more least =
    let e : (calls + 1) * most ≡ calls * most + most = ap (λ n. n * most) (let h : calls + 1 ≡ suc calls = omega arith in h) ∙ suc-mul calls most in
    omega (arith, e, so_far, more, least)

module _ {K : Type 0} (order : K → K → Ordering) (same : K → K → Bool) (total : IsTotalOrder order) (agrees : (x y : K) → same x y ≡ eq_by_cmp order x y)
    (places : List ℕ) (f g : ℕ → Option K) (to : ℕ) (listing : ListsByOrder order places f) (side : IsCompactedSide f g to) where
  abbrev keys : List K
  keys = pairs_in side.keys

  -- The number of listed places is the number of keys.
  as_many : length places ≡ length keys
  as_many = listed_long side.keys places (order_walk_of order same total agrees places side.keys (subst (ListsByOrder order places) (λ i place. side.before place i) listing))

  -- The places below the number of keys have a key, and no others.
  pub compacted_live : (place : ℕ) → place < length places → IsSome (g place)
  compacted_live place inside = subst IsSome (sym (side.after place)) (live_in keys (to - length keys) place (omega (arith, inside, as_many)))

  compacted_within : (place : ℕ) → IsSome (g place) → place < length places
  compacted_within place live =
      let k = some_at (g place) live in
      let r = rank_of keys (to - length keys) place k.0 (sym (side.after place) ∙ k.1) in
      omega (arith, r.0, as_many)

  -- No two of these keys are equal.
  pub compacted_unequal : (place p : ℕ) (k : K) → p < place → g place ≡ Some k → standing order (g p) (Some k) ≡ Equal → ⊥
  compacted_unequal place p k before is e =
      let s = equal_is order (g p) k e in
      compacted_apart side (λ k l. order k l ≡ Equal → ⊥) (λ k l differ tie. differ (tied_back total l k tie)) unequal p place s.0 k (λ at. absurd (omega (arith, before, at))) s.1 is s.2
    where
      unequal : (a b : ℕ) (k l : K) → a ≢ b → f a ≡ Some k → f b ≡ Some l → order k l ≡ Equal → ⊥
      unequal a b k l away first second tie = away (only_one f order order (follows_itself total) places listing.up l a b (listing.lists a (ap is_some first)) (listing.lists b (ap is_some second)) (rw first tie) (own_key f order total b l second))

  -- All places of the side are then listed.
  pub all_listed : (new : List ℕ) → IsListedUpTo order g (length places) new → ListsByOrder order new g
  all_listed new listed = record { up = listed.up; lists = λ place live. (listed.first place).1 (compacted_within place live) }

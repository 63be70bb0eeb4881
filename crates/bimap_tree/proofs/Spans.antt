-- Where the ends of a range cut the ranks.
use Rattle.std.proofs.Common.{◌≡◌, ℕ, List, Option, Some, refl, sym, ap, ◌∙◌, arith, Bool}
use Rattle.std.specs.Prelude.{max, not}
use Rattle.std.specs.Ordering.{is_ge, is_gt, is_lt}
use Rattle.std.specs.declared.cmp.Ordering.{Ordering}
use Rattle.std.specs.declared.cmp.Ordering.TheVariants.{Less, Equal, Greater}
use Rattle.std.specs.declared.ops.Bound.{Bound}
use Rattle.std.specs.declared.ops.Bound.TheVariants.{Included, Excluded, Unbounded}
use Rattle.bimap_base.specs.Keyed.{standing, Ascends, Follows}
use Rattle.bimap_tree.specs.Order.{after_key, count_below, IsSplit}
use Rattle.bimap_tree.specs.Ranges.{is_between, is_from_start, is_past_end}
use Rattle.bimap_tree.specs.Spans.{IsCut, IsSpan}
use Rattle.bimap_tree.proofs.Ascending.{split, split_after}
use Rattle.bimap_tree.proofs.Found.{below_first, not_below}
use Rattle.bimap_tree.proofs.Split.{count_length, not_less}

ge_not_lt : (o : Ordering) → is_ge o ≡ not (is_lt o)
ge_not_lt Less = refl
ge_not_lt Equal = refl
ge_not_lt Greater = refl

gt_not_lt : (o : Ordering) → is_gt o ≡ not (is_lt (after_key o))
gt_not_lt Less = refl
gt_not_lt Equal = refl
gt_not_lt Greater = refl

module _ {K Q : Type 0} (key : ℕ → Option K) (order : K → K → Ordering) (to : K → Q → Ordering) (follows : Follows order to) (xs : List ℕ) (up : Ascends key order xs) where
  -- A test that exactly the keys below a key fail.
  cuts : (go : ℕ → Ordering) → IsSplit go xs → (test : K → Bool) → ((p : ℕ) (k : K) → key p ≡ Some k → test k ≡ not (is_lt (go p))) → (rank : ℕ) → rank ≡ count_below go xs → IsCut test key xs rank
  cuts go parts test tells rank e = record {
    within = omega (arith, e, count_length go xs);
    before = λ i p k few at has. tells p k has ∙ ap (λ o. not (is_lt o)) (below_first go xs parts i p (omega (arith, e, few)) at);
    after = λ i p k few at has. tells p k has ∙ ap not (not_less (go p) (not_below go xs parts i p (omega (arith, e, few)) at));
  }

  pub cut_included : (query : Q) (rank : ℕ) → rank ≡ count_below (λ q. standing to (key q) (Some query)) xs → IsCut (is_from_start to (Included query)) key xs rank
  cut_included query =
      cuts (λ q. standing to (key q) (Some query)) (split key order to follows query xs up) (λ k. is_ge (to k query))
      (λ p k has. ge_not_lt (to k query) ∙ ap (λ o. not (is_lt (standing to o (Some query)))) (sym has))

  pub cut_excluded : (query : Q) (rank : ℕ) → rank ≡ count_below (λ q. after_key (standing to (key q) (Some query))) xs → IsCut (is_from_start to (Excluded query)) key xs rank
  cut_excluded query =
      cuts (λ q. after_key (standing to (key q) (Some query))) (split_after (λ q. standing to (key q) (Some query)) xs (split key order to follows query xs up)) (λ k. is_gt (to k query))
      (λ p k has. gt_not_lt (to k query) ∙ ap (λ o. not (is_lt (after_key (standing to o (Some query))))) (sym has))

  pub cut_unbounded : IsCut (is_from_start to Unbounded) key xs 0
  cut_unbounded = record { within = omega arith; before = λ i p k few at has. absurd (omega arith); after = λ i p k few at has. refl }

-- The keys between the two cuts are between the two ends.
pub span_from_cuts : {K Q : Type 0} (key_at : ℕ → Option K) (order : K → Q → Ordering) (low high : Bound Q) (places : List ℕ) (front cut back : ℕ) → IsCut (is_from_start order low) key_at places front → IsCut (is_past_end order high) key_at places cut → back ≡ max front cut → IsSpan (is_between order low high) key_at places front back
span_from_cuts key_at order low high places front cut back start end most =
    record {
      before = λ i p k l at has. let e = start.before i p k l at has in rw e refl;
      inside = λ i p k l m at has. let e = start.after i p k l at has in let f = end.before i p k (omega (arith, most, l, m)) at has in rw (e, f) refl;
      after = λ i p k l at has. let e = start.after i p k (omega (arith, most, l)) at has in let f = end.after i p k (omega (arith, most, l)) at has in rw (e, f) refl;
    }

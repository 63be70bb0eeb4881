-- A range whose ends are references to keys.
use Rattle.std.proofs.Common.{◌≡◌, ◌∙◌, refl, ap}
use Rattle.std.specs.Prelude.{not, ◌&&◌}
use Rattle.std.specs.BTreeMap.Range.{range_contains, is_from_start, is_past_end}
use Rattle.std.specs.Cmp.{IsTotalOrder}
use Rattle.std.specs.Ordering.{is_ge, is_gt, is_le, is_lt, ordering_reverse}
use Rattle.std.specs.Range.Bound.{bound_map}
use Rattle.std.specs.declared.cmp.Ordering.{Ordering}
use Rattle.std.specs.declared.cmp.Ordering.TheVariants.{Less, Equal, Greater}
use Rattle.std.specs.declared.ops.Bound.{Bound}
use Rattle.std.specs.declared.ops.Bound.TheVariants.{Included, Excluded, Unbounded}
use Rattle.bimap_tree.specs.Ranges as asked
use Rattle.bimap_tree.specs.Ranges.{is_between}

ge_turned : (o : Ordering) → is_ge (ordering_reverse o) ≡ is_le o
ge_turned Less = refl
ge_turned Equal = refl
ge_turned Greater = refl

gt_turned : (o : Ordering) → is_gt (ordering_reverse o) ≡ is_lt o
gt_turned Less = refl
gt_turned Equal = refl
gt_turned Greater = refl

module _ {K Q : Type 0} (order : K → K → Ordering) (total : IsTotalOrder order) (key : Q → K) where
  at_or_after : (a k : K) → is_ge (order k a) ≡ is_le (order a k)
  at_or_after a k = ap is_ge (total.antisymm k a) ∙ ge_turned (order a k)

  after : (a k : K) → is_gt (order k a) ≡ is_lt (order a k)
  after a k = ap is_gt (total.antisymm k a) ∙ gt_turned (order a k)

  from_start : (start : Bound Q) (k : K) → asked.is_from_start (λ k q. order k (key q)) start k ≡ is_from_start order (bound_map key start) k
  from_start (Included q) k = at_or_after (key q) k
  from_start (Excluded q) k = after (key q) k
  from_start Unbounded k = refl

  past_end : (end : Bound Q) (k : K) → asked.is_past_end (λ k q. order k (key q)) end k ≡ is_past_end order (bound_map key end) k
  past_end (Included q) k = after (key q) k
  past_end (Excluded q) k = at_or_after (key q) k
  past_end Unbounded k = refl

  -- A range between references to keys contains what the range between the keys contains.
  pub between_keys : (start end : Bound Q) (low high : Bound K) → bound_map key start ≡ low → bound_map key end ≡ high → is_between (λ k q. order k (key q)) start end ≡ range_contains order low high
  between_keys start end low high s e = λ i k. (from_start start k ∙ ap (λ b. is_from_start order b k) s) i && not ((past_end end k ∙ ap (λ b. is_past_end order b k) e) i)

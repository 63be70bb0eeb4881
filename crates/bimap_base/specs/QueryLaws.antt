-- Why the laws of a query hold.
use Rattle.std.specs.Prelude.{◌≡◌, Bool, true}
use Rattle.std.proofs.Common.{refl, sym, ap, ◌∙◌, true≢false}
use Rattle.std.proofs.lemmas.Cmp.{alike_right}
use Rattle.std.specs.Cmp.{IsEquivalence, IsTotalOrder}
use Rattle.std.specs.Ordering.{is_le}
use Rattle.std.specs.declared.cmp.Ordering.{Ordering}
use Rattle.std.specs.declared.cmp.Ordering.TheVariants.{Less, Equal, Greater}
use Rattle.bimap_base.specs.Keyed.{Follows}

-- If `x` is equal to `q`, the things equal to `q` are the things equal to `x`.
pub respects_equal : {K : Type 0} {same : K → K → Bool} → IsEquivalence same → (q x y : K) → same x q ≡ true → same y q ≡ same y x
respects_equal laws q x y e = laws.symm y q ∙ sym (laws.congr x q y e) ∙ laws.symm x y

-- A total order has the law `Follows` if the queries are keys.
pub follows_itself : {K : Type 0} {order : K → K → Ordering} → IsTotalOrder order → Follows order order
follows_itself {order = order} total q x y less le = by (order y q) refl
  where
    by : (r : Ordering) → order y q ≡ r → order x q ≡ Less
    by Less e = total.trans x y q less e
    by Equal e = sym (alike_right total y q x e) ∙ less
    by Greater e = absurd (true≢false (sym le ∙ ap is_le e))

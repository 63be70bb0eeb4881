-- Statements about a map, expressed for the map with its sides exchanged.
use Rattle.std.proofs.Common.{◌≡◌, ◌∙◌, ◌+◌, Bool, true, false, length, map, Option, Some, None, sym, ap, Contains}
use Rattle.std.specs.Prelude.{IfSome, IfNone, MatchOption, option_map}
use Rattle.std.specs.Borrow.{Bor}
use Rattle.std.proofs.lemmas.List.{length-map}
use Rattle.bimap_base.specs.Holding.{Holding, IsPartner, IsRemoval}
use Rattle.bimap_base.specs.Inverse.{inverse_pair}
use Rattle.bimap_base.proofs.Inverse.{inverse_in, in_inverse}
use Rattle.bimap_any.specs.Exchanged.{inverse_holding}

module _ {L R : Type 0} where
  pub partner_inverse : {X Y : Type 0} {pair : X → Y → L × R} {passes : L × R → Bool} {held : Holding L R} {result : Option (Bor Y)} → IsPartner pair passes held result → IsPartner (λ x y. inverse_pair (pair x y)) (λ q. passes (inverse_pair q)) (inverse_holding held) result
  partner_inverse {held = held} {result = None} h = record { found = tt; none = λ q c. h.none (inverse_pair q) (inverse_in held.pairs q c) }
  partner_inverse {pair = pair} {held = held} {result = Some y} h = record { found = (h.found.0, in_inverse held.pairs (inverse_pair (pair h.found.0 y.now)) h.found.1, h.found.2); none = tt }

  pub removal_inverse : {passes : L × R → Bool} {old : Holding L R} {result : Option (L × R)} {new : Holding L R} → IsRemoval passes old result new → IsRemoval (λ q. passes (inverse_pair q)) (inverse_holding old) (option_map inverse_pair result) (inverse_holding new)
  removal_inverse {passes} {old} {result} {new} h = record {
    removed = removed result h.removed;
    none = none result h.none;
    without = λ q.
        let w = h.without (inverse_pair q) in
        (λ c. let o = w.0 (inverse_in new.pairs q c) in (in_inverse old.pairs q o.0, o.1), λ o. in_inverse new.pairs q (w.1 (inverse_in old.pairs q o.0, o.1)));
    count = count result h.count;
    room = h.room;
  }
    where
      removed : (r : Option (L × R)) → IfSome r (λ p. Contains old.pairs p × (passes p ≡ true)) → IfSome (option_map inverse_pair r) (λ q. Contains (map inverse_pair old.pairs) q × (passes (inverse_pair q) ≡ true))
      removed None s = tt
      removed (Some p) s = (in_inverse old.pairs (inverse_pair p) s.0, s.1)

      none : (r : Option (L × R)) → IfNone r ((p : L × R) → Contains old.pairs p → passes p ≡ false) → IfNone (option_map inverse_pair r) ((q : R × L) → Contains (map inverse_pair old.pairs) q → passes (inverse_pair q) ≡ false)
      none None s = λ q c. s (inverse_pair q) (inverse_in old.pairs q c)
      none (Some p) s = tt

      count : (r : Option (L × R)) → MatchOption r (length new.pairs ≡ length old.pairs) (λ _. length new.pairs + 1 ≡ length old.pairs) → MatchOption (option_map inverse_pair r) (length (map inverse_pair new.pairs) ≡ length (map inverse_pair old.pairs)) (λ _. length (map inverse_pair new.pairs) + 1 ≡ length (map inverse_pair old.pairs))
      count None s = length-map new.pairs inverse_pair ∙ s ∙ sym (length-map old.pairs inverse_pair)
      count (Some p) s = ap (λ n. n + 1) (length-map new.pairs inverse_pair) ∙ s ∙ sym (length-map old.pairs inverse_pair)

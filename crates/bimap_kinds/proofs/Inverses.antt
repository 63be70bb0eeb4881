-- A map with its sides exchanged, and the pairs that it contains.
use mathlib.Core.HLevel.{is_prop→PathP}
use Rattle.std.proofs.Common.{◌≡◌, ◌≤◌, ◌∙◌, length, map, sym, ap, subst, Contains}
use Rattle.std.specs.List.{AllPairs}
use Rattle.std.specs.Option.{option_map}
use Rattle.std.specs.declared.cmp.Ordering.TheVariants.{Less}
use Rattle.std.proofs.Props.{props}
use Rattle.std.proofs.lemmas.List.{length-map}
use Rattle.bimap_base.specs.Inverse.{inverse_pair, IsInverse}
use Rattle.bimap_base.specs.PairsAt.{pairs_at}
use Rattle.bimap_base.specs.Sets.{IsApart}
use Rattle.bimap_base.proofs.Walk.{IsWalk, walked, long_walked}
use Rattle.bimap_base.proofs.Inverse.{inverse_in, in_inverse}
use Rattle.bimap_core.proofs.Shrinking.{keys_walked}
use Rattle.bimap_core.specs.declared.table.Table.{Table}
use Rattle.bimap_kinds.specs.HeldTable.{held, held_by_right}
use Rattle.bimap_kinds.specs.declared.map.BijectiveMap.{BijectiveMap}

module _ {L R I J LeftSpot LeftSearch RightSpot RightSearch : Type 0} {left_eq : _} {right_eq : _} {left : _} {right : _} where
  -- A table whose pairs have their sides exchanged. Its indexes are exchanged too.
  module _ (table : Table L R I J LeftSpot LeftSearch RightSpot RightSearch left_eq right_eq left right) (turned : Table R L J I RightSpot RightSearch LeftSpot LeftSearch right_eq left_eq right left)
      (pairs : turned.pairs ≡ map (option_map inverse_pair) table.pairs) where
    pub walked_by_left : turned.left ≡ table.right → (held turned).pairs ≡ map inverse_pair (held_by_right table)
    unfolding held held_by_right
    walked_by_left e = ap (λ s. pairs_at s (right.places turned.left)) pairs ∙ ap (λ x. pairs_at (map (option_map inverse_pair) table.pairs) (right.places x)) e ∙ keys_walked inverse_pair table.pairs (right.places table.right)

    pub walked_by_right : turned.right ≡ table.left → held_by_right turned ≡ map inverse_pair (held table).pairs
    unfolding held held_by_right
    walked_by_right e = ap (λ s. pairs_at s (left.places turned.right)) pairs ∙ ap (λ x. pairs_at (map (option_map inverse_pair) table.pairs) (left.places x)) e ∙ keys_walked inverse_pair table.pairs (left.places table.left)

    pub is_inverse : IsWalk table.pairs (left.places table.left) → IsWalk table.pairs (right.places table.right) → turned.left ≡ table.right → IsInverse (held table) (held turned)
    unfolding held held_by_right
    is_inverse walk walk' e =
        let slots = table.pairs in
        let by_right = pairs_at slots (right.places table.right) in
        let same = walked_by_left e in
        record {
          pairs = λ p.
              let v = walked slots _ walk (inverse_pair p) in
              let w = walked slots _ walk' (inverse_pair p) in
              (λ c. v.0 (w.1 (inverse_in by_right p (subst (λ xs. Contains xs p) same c))), λ c. subst (λ xs. Contains xs p) (sym same) (in_inverse by_right p (w.0 (v.1 c))));
          count = ap length same ∙ length-map by_right inverse_pair ∙ long_walked slots _ walk' ∙ sym (long_walked slots _ walk);
          room = ap length pairs ∙ length-map slots (option_map inverse_pair);
        }

  -- Two maps with the same table are equal.
  pub same_map : (b c : BijectiveMap L R I J LeftSpot LeftSearch RightSpot RightSearch left_eq right_eq left right) → b.table ≡ c.table → b ≡ c
  same_map b c e = λ i. record {
    table = e i;
    apart = is_prop→PathP (λ j. IsApart left_eq.eq right_eq.eq (held (e j)).pairs) (λ j. hlevel props) b.apart c.apart i;
    ascending = is_prop→PathP (λ j. AllPairs (λ p q. left.walk_order (e j).left p.0 q.0 ≡ Less) (held (e j)).pairs) (λ j. hlevel props) b.ascending c.ascending i;
    fits = is_prop→PathP (λ j. length (held (e j)).pairs ≤ (held (e j)).room) (λ j. hlevel props) b.fits c.fits i;
    lefts = is_prop→PathP (λ j. length (left.places (e j).left) ≡ length (held (e j)).pairs) (λ j. hlevel props) b.lefts c.lefts i;
    rights = is_prop→PathP (λ j. length (right.places (e j).right) ≡ length (held (e j)).pairs) (λ j. hlevel props) b.rights c.rights i;
  }

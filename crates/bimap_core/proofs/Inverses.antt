-- A store with the sides of its pairs exchanged, and its indexes.
use mathlib.Core.HLevel.{is_prop→PathP}
use Rattle.std.proofs.Common.{◌≡◌, ◌≤◌, Bool, List, length, map, Option, Some, None, refl, sym, ap, subst, ◌∙◌}
use Rattle.std.specs.Option.{option_map}
use Rattle.std.proofs.Props.{props}
use Rattle.bimap_base.specs.Inverse.{inverse_pair}
use Rattle.bimap_base.specs.Places.{pairs_in}
use Rattle.bimap_base.specs.Sets.{IsApart}
use Rattle.bimap_base.specs.Slots.{pair_at, left_at, right_at}
use Rattle.bimap_base.proofs.Inverse.{apart_inverse}
use Rattle.bimap_index.proofs.Compaction.{keys_at, keys_in}
use Rattle.bimap_core.specs.declared.table.Table.{Table}

module _ {L R : Type 0} where
  -- The keys of a side are the keys that the other side had before.
  pub left_of_inverse : (slots : List (Option (L × R))) → right_at slots ≡ left_at (map (option_map inverse_pair) slots)
  left_of_inverse slots = λ i place. (by (pair_at slots place) ∙ ap (option_map (λ p. p.0)) (keys_at inverse_pair slots place)) i
    where
      by : (o : Option (L × R)) → option_map (λ p. p.1) o ≡ option_map (λ p. p.0) (option_map inverse_pair o)
      by None = refl
      by (Some p) = refl

  pub right_of_inverse : (slots : List (Option (L × R))) → left_at slots ≡ right_at (map (option_map inverse_pair) slots)
  right_of_inverse slots = λ i place. (by (pair_at slots place) ∙ ap (option_map (λ p. p.1)) (keys_at inverse_pair slots place)) i
    where
      by : (o : Option (L × R)) → option_map (λ p. p.0) o ≡ option_map (λ p. p.1) (option_map inverse_pair o)
      by None = refl
      by (Some p) = refl

  pub apart_in_inverse : (same_left : L → L → Bool) (same_right : R → R → Bool) (slots : List (Option (L × R))) → IsApart same_left same_right (pairs_in slots) → IsApart same_right same_left (pairs_in (map (option_map inverse_pair) slots))
  apart_in_inverse same_left same_right slots apart = subst (IsApart same_right same_left) (sym (keys_in inverse_pair slots)) (apart_inverse same_left same_right (pairs_in slots) apart)

-- Two tables with the same plain fields are equal.
pub same_table : {L R I J LeftSpot LeftSearch RightSpot RightSearch : Type 0} {left_eq : _} {right_eq : _} {left : _} {right : _} (t u : Table L R I J LeftSpot LeftSearch RightSpot RightSearch left_eq right_eq left right) → t.pairs ≡ u.pairs → t.left ≡ u.left → t.right ≡ u.right → t.is_left_first ≡ u.is_left_first → t ≡ u
same_table {left_eq = left_eq} {right_eq = right_eq} {left = left} {right = right} t u e f g h = λ i. record {
  pairs = e i;
  left = f i;
  right = g i;
  is_left_first = h i;
  left_listing = is_prop→PathP (λ j. ∥ left.is_listing (f j) (left_at (e j)) ∥₁) (λ j. hlevel props) t.left_listing u.left_listing i;
  right_listing = is_prop→PathP (λ j. ∥ right.is_listing (g j) (right_at (e j)) ∥₁) (λ j. hlevel props) t.right_listing u.right_listing i;
  left_cells = is_prop→PathP (λ j. length (e j) ≤ left.cells (f j)) (λ j. hlevel props) t.left_cells u.left_cells i;
  right_cells = is_prop→PathP (λ j. length (e j) ≤ right.cells (g j)) (λ j. hlevel props) t.right_cells u.right_cells i;
  apart = is_prop→PathP (λ j. IsApart left_eq.eq right_eq.eq (pairs_in (e j))) (λ j. hlevel props) t.apart u.apart i;
  fits = is_prop→PathP (λ j. length (pairs_in (e j)) ≤ length (e j)) (λ j. hlevel props) t.fits u.fits i;
}

-- The positions of pairs that were inserted one after the other.
use Rattle.std.proofs.Common.{◌≡◌, ◌+◌, ◌≤◌, List, [], ◌∷◌, ◌++◌, length, ap, ◌∙◌, arith}
use Rattle.std.proofs.lemmas.List.{append_assoc, length_push}
use Rattle.bimap_base.specs.Answer.{named_count}
use Rattle.bimap_base.specs.declared.overwritten.Overwritten.{Overwritten}
use Rattle.bimap_base.specs.declared.overwritten.Overwritten.TheVariants.{Neither, Left, Right, Pair, Both}
use Rattle.bimap_base.specs.Positions.{StandsInOrder, ComeInOrder}

module _ {L R : Type 0} where
  -- If no pair was overwritten, the new pair comes last.
  pub stands_last : (old : List (L × R)) (pair : L × R) (answer : Overwritten L R) (new : List (L × R)) → named_count answer ≡ 0 → StandsInOrder old pair answer new → new ≡ old ++ pair ∷ []
  stands_last old pair Neither new none stands = stands
  stands_last old pair (Left l r) new none stands = absurd (omega (arith, none))
  stands_last old pair (Right l r) new none stands = absurd (omega (arith, none))
  stands_last old pair (Pair l r) new none stands = absurd (omega (arith, none))
  stands_last old pair (Both p q) new none stands = absurd (omega (arith, none))

  -- Two pairs that overwrite no pair come last, in order.
  pub two_last : (old : List (L × R)) (first second : L × R) (answer other : Overwritten L R) (once new : List (L × R)) → named_count answer + named_count other ≡ 0 → StandsInOrder old first answer once → StandsInOrder once second other new → new ≡ old ++ first ∷ second ∷ []
  two_last old first second answer other once new none one two =
      stands_last once second other new (omega (arith, none)) two
      ∙ ap (λ ps. ps ++ second ∷ []) (stands_last old first answer once (omega (arith, none)) one)
      ∙ append_assoc old (first ∷ []) (second ∷ [])

  -- One more item.
  pub in_order_more : (old items held : List (L × R)) (item : L × R) (answer : Overwritten L R) (new : List (L × R)) → length held ≤ length old + length items → ComeInOrder old items held → length new + named_count answer ≡ length held + 1 → StandsInOrder held item answer new → ComeInOrder old (items ++ item ∷ []) new
  in_order_more old items held item answer new no_longer before count stands all =
      let more = length_push items item in
      stands_last held item answer new (omega (arith, more, all, count, no_longer)) stands
      ∙ ap (λ ps. ps ++ item ∷ []) (before (omega (arith, more, all, count, no_longer)))
      ∙ append_assoc old items (item ∷ [])

-- The number of pairs that an answer names.
use Rattle.std.proofs.Common.{◌≡◌, ◌∙◌, Bool, refl, sym, true≢false}
use Rattle.std.proofs.lemmas.Bool.{or_left, or_right}
use Rattle.bimap_base.specs.Sets.{NoneShares}
use Rattle.bimap_base.specs.Answer.{IsAnswer, named_count}
use Rattle.bimap_base.specs.declared.overwritten.Overwritten.{Overwritten}
use Rattle.bimap_base.specs.declared.overwritten.Overwritten.TheVariants.{Neither, Left, Right, Pair, Both}

module _ {L R : Type 0} (same_left : L → L → Bool) (same_right : R → R → Bool) (S : L × R → Type 0) (new : L × R) where
  -- If no pair shares a value, the answer names no pair.
  pub none_named : (answer : Overwritten L R) → NoneShares same_left same_right S new → IsAnswer same_left same_right S new answer → named_count answer ≡ 0
  none_named Neither none is = refl
  none_named (Left l r) none is = absurd (true≢false (sym (or_left (same_left l new.0) (same_right r new.1) is.1) ∙ none (l, r) is.0.member))
  none_named (Right l r) none is = absurd (true≢false (sym (or_right (same_left l new.0) (same_right r new.1) is.2) ∙ none (l, r) is.0.member))
  none_named (Pair l r) none is = absurd (true≢false (sym (or_left (same_left l new.0) (same_right r new.1) is.1) ∙ none (l, r) is.0.member))
  none_named (Both p q) none is = absurd (true≢false (sym (or_left (same_left p.0 new.0) (same_right p.1 new.1) is.by_left) ∙ none p is.first))

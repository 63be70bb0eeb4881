-- Operations that were performed, and one more.
use Rattle.std.proofs.Common.{Bool, List, [], ◌∷◌, ◌++◌, refl, subst}
use Rattle.std.specs.Prelude.{Result, Ok, Err, IfOk, Vec}
use Rattle.bimap_undo.specs.Marks.{Marked}
use Rattle.bimap_undo.specs.declared.operations.Operation.{Operation}
use Rattle.bimap_undo.specs.declared.operations.Outcome.{Outcome}
use Rattle.bimap_undo.specs.Operations.{IsPerformed, ArePerformed}

module _ {L R : Type 0} (same_left : L → L → Bool) (same_right : R → R → Bool) where
  -- The next operation starts where those before it ended.
  pub performed_more : (old : Marked L R) (operations : List (Operation L R)) (outcomes : List (Outcome L R)) (now : Marked L R) (operation : Operation L R) (outcome : Outcome L R) (new : Marked L R) → ArePerformed same_left same_right old operations outcomes now → IsPerformed same_left same_right now operation outcome new → ArePerformed same_left same_right old (operations ++ operation ∷ []) (outcomes ++ outcome ∷ []) new
  performed_more old [] [] now operation outcome new none one = (new, subst (λ u. IsPerformed same_left same_right u operation outcome new) none one, refl)
  performed_more old (first ∷ operations) (reply ∷ outcomes) now operation outcome new h one =
      (h.0, h.1, performed_more h.0 operations outcomes now operation outcome new h.2 one)
  performed_more old [] (reply ∷ outcomes) now operation outcome new h one = absurd h
  performed_more old (first ∷ operations) [] now operation outcome new h one = absurd h

  -- The performed operations led to some state.
  pub led_somewhere : {A E : Type 0} (old : Marked L R) (operations : List (Operation L R)) (result : Result (Vec (Outcome L R) A) E) (there : Marked L R) → IfOk result (λ outcomes. ArePerformed same_left same_right old operations outcomes.items there) → IfOk result (λ outcomes. (there : Marked L R) × ArePerformed same_left same_right old operations outcomes.items there)
  led_somewhere old operations (Ok outcomes) there are = (there, are)
  led_somewhere old operations (Err e) there are = tt

use Rattle.std.proofs.Common.{arith}
use Rattle.std.specs.Prelude.{Result, Ok, Err, IfOk}
use Rattle.bimap_journal.proofs.batch.perform_all.Goals as goal

both_ok : {T E : Type 0} {P Q S : T → Type 0} (r : Result T E) → ((x : T) → P x → Q x → S x) → IfOk r P → IfOk r Q → IfOk r S
both_ok (Ok x) f p q = f x p q
both_ok (Err e) f p q = tt

pub returns-clause-ran : goal.returns-clause-ran
returns-clause-ran g c =
    both_ok c.run_all.result
    (λ replies one history. (let a = replies.ok.0 in let b = c.args.calls.ok.0 in omega (arith, one, a, b), history (λ key. elim key [ ])))
    c.run_all.ensures.one_each c.run_all.ensures.ran

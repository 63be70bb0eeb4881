use Rattle.std.proofs.Common.{sym, ◌∙◌, arith}
use Rattle.std.proofs.lemmas.Bool.{or_parts}
use Rattle.test_support.proofs.Removal.{taken_first, taken_none}
use Rattle.test_support.proofs.plain.scan.take_left.Goals as goal

pub returns : goal.returns
returns g c = taken_first g.L.PartialEq.eq g.R.PartialEq.eq g.met.L.Eq.laws g.met.R.Eq.laws (λ p. p.0) g.L.PartialEq.eq g.met.L.Eq.laws (λ p q h. (or_parts _ _ h).0) c.args.pairs.now c.args.left.now c.requires c.in_ok-place.place c.remove.result c.remove.new.self (sym (rw c.deref.ensures.value at c.place_of_left.ensures) ∙ c.in_ok-place.was) c.remove.ensures.value c.remove.ensures.items (omega arith) (omega arith)

pub returns-in_err-place : goal.returns-in_err-place
returns-in_err-place g c = rw c.from_residual.ensures (taken_none g.L.PartialEq.eq g.R.PartialEq.eq g.met.L.Eq.laws g.met.R.Eq.laws (λ p. p.0) g.L.PartialEq.eq g.met.L.Eq.laws (λ p q h. (or_parts _ _ h).0) c.args.pairs.now c.args.left.now c.requires (sym (rw c.deref.ensures.value at c.place_of_left.ensures) ∙ c.in_err-place.was))

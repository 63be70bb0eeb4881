use Rattle.bimap_any.proofs.Interned.{interned_by_right}
use Rattle.bimap_any.proofs.interning.get_by_right_or_insert.Goals as goal

pub returns-in-Ok-clause-answer : goal.returns-in-Ok-clause-answer
returns-in-Ok-clause-answer g c = interned_by_right g.L.PartialEq.eq g.R.PartialEq.eq _ (c.args.left, c.args.right) _ (rw c.in-Ok.is at c.insert_no_overwrite.ensures.answer) g.met.R.Eq.laws c.in_default.ensures.none

use Rattle.std.proofs.Common.{rules}
use Rattle.bimap_any.proofs.Interned.{interned}
use Rattle.bimap_any.proofs.interning.Interning.get_by_left_or_insert.Goals as goal

pub returns-in-Ok-clause-answer : goal.returns-in-Ok-clause-answer
returns-in-Ok-clause-answer g c = interned g.L.PartialEq.eq g.R.PartialEq.eq _ (c.args.left, c.args.right) _ (rw c.in-Ok.is at c.insert_no_overwrite.ensures.answer) g.met.L.Eq.laws c.in_default.ensures.none

pub returns-in-Some-clause-answer : goal.returns-in-Some-clause-answer
returns-in-Some-clause-answer g c = search rules

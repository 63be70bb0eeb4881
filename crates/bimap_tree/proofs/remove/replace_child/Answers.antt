use Rattle.std.proofs.Common.{arith}
use Rattle.bimap_tree.proofs.Replaced.{replaced_at_top, above_within, replaced_length, replaced}
use Rattle.bimap_tree.proofs.remove.replace_child.Goals as goal

pub set_child-requires-clause-place : goal.set_child-requires-clause-place
set_child-requires-clause-place g c = above_within _ _ _ _ _ c.requires.replace.2 c.if-depth-gt0.true _ c.step-above.ensures

pub returns-then-depth-gt0-clause-replaced : goal.returns-then-depth-gt0-clause-replaced
returns-then-depth-gt0-clause-replaced g c path s t h = replaced _ _ _ path s h c.if-depth-gt0.true _ c.step-above.ensures _ _ c.set_child.ensures.written t

pub returns-then-depth-gt0-clause-length : goal.returns-then-depth-gt0-clause-length
returns-then-depth-gt0-clause-length g c = replaced_length _ _ _ _ _ c.requires.replace.2 c.if-depth-gt0.true _ c.step-above.ensures _ _ c.set_child.ensures.written

pub returns-else-depth-gt0-clause-replaced : goal.returns-else-depth-gt0-clause-replaced
returns-else-depth-gt0-clause-replaced g c path s t h root a b = replaced_at_top _ _ _ path s t h (omega (arith, c.if-depth-gt0.false))

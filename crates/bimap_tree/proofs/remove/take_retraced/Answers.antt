use Rattle.std.proofs.Common.{arith}
use Rattle.bimap_tree.specs.Tree.{fork}
use Rattle.bimap_tree.proofs.Paths.{steps_within}
use Rattle.bimap_tree.proofs.Retracing.{retrace_take, take_retraced}
use Rattle.bimap_tree.proofs.Rises.{begins_anew}
use Rattle.bimap_tree.proofs.remove.take_retraced.Goals as goal

pub retraced-notes-requires : goal.retraced-notes-requires
retraced-notes-requires g c = (_, _, retrace_take _ _ _ _ _ _ _ c.requires.3 c.requires.4)

pub take_along-root-requires-clause-take : goal.take_along-root-requires-clause-take
take_along-root-requires-clause-take g c = (_, _, _, take_retraced _ _ _ _ (c.retraced-notes.ensures.notes _ _ (retrace_take _ _ _ _ _ _ _ c.requires.3 c.requires.4)) _ _ _ c.requires.3)

pub returns-clause-tree : goal.returns-clause-tree
returns-clause-tree g c path l r h root = c.take_along-root.ensures.tree path l r (take_retraced _ _ _ path (c.retraced-notes.ensures.notes path _ (retrace_take _ _ _ path l _ r h root)) l _ r h)

pub returns-clause-begins : goal.returns-clause-begins
returns-clause-begins g c path l r h root =
    let (v, i) = c.take_along-root.ensures.tree path l r (take_retraced _ _ _ path (c.retraced-notes.ensures.notes path _ (retrace_take _ _ _ path l _ r h root)) l _ r h) in
    (_, _, c.keep.ensures, begins_anew _ _ v i.tree _ path)

pub returns-clause-touches : goal.returns-clause-touches
returns-clause-touches g c path l r h root =
    let long = take_retraced _ _ _ path (c.retraced-notes.ensures.notes path _ (retrace_take _ _ _ path l _ r h root)) l _ r h in
    omega (arith, c.take_along-root.ensures.touches path l r long, h.depth_is, steps_within path (fork l c.args.at r))

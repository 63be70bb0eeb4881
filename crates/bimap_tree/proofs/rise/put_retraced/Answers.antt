use Rattle.bimap_tree.proofs.Retracing.{retrace_put, put_retraced}
use Rattle.bimap_tree.proofs.Rises.{begins_anew}
use Rattle.bimap_tree.proofs.rise.put_retraced.Goals as goal

pub returns-clause-begins : goal.returns-clause-begins
returns-clause-begins g c path h root =
    let (v, i) = c.put_along-root.ensures.tree path (put_retraced _ _ _ path (c.retraced-notes.ensures.notes path _ (retrace_put _ _ _ path _ h root)) _ h) in
    (_, _, c.keep.ensures, begins_anew _ _ v i.tree _ path)

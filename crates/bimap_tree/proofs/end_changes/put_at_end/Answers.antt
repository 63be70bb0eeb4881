use Rattle.std.proofs.Common.{arith}
use Rattle.bimap_tree.specs.Tree.{leaf}
use Rattle.bimap_tree.proofs.EndRoutes.{part_told, put_low}
use Rattle.bimap_tree.proofs.end_changes.put_at_end.Goals as goal

pub settle-requires : goal.settle-requires
settle-requires g c =
    let (path, h, root, goes) = c.requires in
    (path, part_told _ _ _ _ path (c.put_at-root.ensures.begins path h root), goes, put_low _ _ _ path _ _ h (c.put_at-root.ensures.tree path h root))

pub returns-clause-end : goal.returns-clause-end
returns-clause-end g c path h root goes v stands =
    c.settle.ensures.end path (part_told _ _ _ _ path (c.put_at-root.ensures.begins path h root)) goes v stands (put_low _ _ _ path _ _ h (c.put_at-root.ensures.tree path h root) v stands)

pub returns-clause-other : goal.returns-clause-other
returns-clause-other g c path h root goes kept v stands =
    c.settle.ensures.other path (part_told _ _ _ _ path (c.put_at-root.ensures.begins path h root)) goes v stands (put_low _ _ _ path _ _ h (c.put_at-root.ensures.tree path h root) v stands) leaf kept

pub returns-clause-touches : goal.returns-clause-touches
returns-clause-touches g c v stands = omega (arith, c.put_at-root.ensures.touches, c.settle.ensures.touches v stands)

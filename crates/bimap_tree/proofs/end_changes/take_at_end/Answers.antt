use Rattle.std.proofs.Common.{arith}
use Rattle.bimap_tree.specs.Tree.{fork}
use Rattle.bimap_tree.proofs.EndRoutes.{part_told, take_low}
use Rattle.bimap_tree.proofs.end_changes.take_at_end.Goals as goal

pub settle-requires : goal.settle-requires
settle-requires g c =
    let (path, l, r, h, root, goes) = c.requires.take in
    (path, part_told _ _ _ _ path (c.take_at-root.ensures.begins path l r h root), goes, take_low _ _ _ path l _ r _ h (c.take_at-root.ensures.tree path l r h root))

pub returns-clause-end : goal.returns-clause-end
returns-clause-end g c path l r h root goes v stands =
    c.settle.ensures.end path (part_told _ _ _ _ path (c.take_at-root.ensures.begins path l r h root)) goes v stands (take_low _ _ _ path l _ r _ h (c.take_at-root.ensures.tree path l r h root) v stands)

pub returns-clause-other : goal.returns-clause-other
returns-clause-other g c path l r h root goes kept v stands =
    c.settle.ensures.other path (part_told _ _ _ _ path (c.take_at-root.ensures.begins path l r h root)) goes v stands (take_low _ _ _ path l _ r _ h (c.take_at-root.ensures.tree path l r h root) v stands) (fork l c.args.place r) kept

pub returns-clause-touches : goal.returns-clause-touches
returns-clause-touches g c path l r h root v stands = omega (arith, c.take_at-root.ensures.touches path l r h root, c.settle.ensures.touches v stands)

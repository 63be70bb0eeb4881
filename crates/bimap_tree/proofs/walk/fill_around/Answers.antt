use Rattle.std.proofs.Common.{◌+◌, ◌<◌, arith}
use Rattle.bimap_tree.specs.Tree.{size}
use Rattle.bimap_tree.proofs.Filling.{told_size}
use Rattle.bimap_tree.proofs.Rows.{row, one_at_most}
use Rattle.bimap_tree.proofs.walk.fill_around.Goals as goal

pub returns-clause-row : goal.returns-clause-row
returns-clause-row g c t h b few =
    let (s, p, cost) = c.subtree_around-subtree.ensures.subtree t h b few in
    let n = told_size _ _ _ s p.shown in
    let room : c.put-first.result + size s < 126 = omega (arith, n, c.subtree_around-subtree.ensures.few, c.requires.most, c.put-first.ensures.most, one_at_most c.subtree_around-subtree.result.before) in
    row _ _ _ _ s p _ _ _ _ _ _ (omega (arith, c.subtree_around-subtree.ensures.few, c.requires.most)) c.put-first.ensures (c.fill_tree.ensures.filled s p.shown room) c.put-count.ensures

pub fill_tree-requires-clause-tree : goal.fill_tree-requires-clause-tree
fill_tree-requires-clause-tree g c =
    let (t, h, b, few, fits) = c.requires.tree in
    let (s, p, cost) = c.subtree_around-subtree.ensures.subtree t h b few in
    (s, p.shown, omega (arith, told_size _ _ _ s p.shown, c.subtree_around-subtree.ensures.few, c.requires.most, c.put-first.ensures.most, one_at_most c.subtree_around-subtree.result.before))

pub put-count-requires-clause-room : goal.put-count-requires-clause-room
put-count-requires-clause-room g c =
    omega (arith, c.subtree_around-subtree.ensures.few, c.requires.most, c.put-first.ensures.most, one_at_most c.subtree_around-subtree.result.before)

pub returns-clause-touches : goal.returns-clause-touches
returns-clause-touches g c t h b few =
    let (s, p, cost) = c.subtree_around-subtree.ensures.subtree t h b few in
    omega (arith, cost, told_size _ _ _ s p.shown, c.subtree_around-subtree.ensures.few, c.requires.most, c.read_by_levels.ensures.touches, c.fill_tree.ensures.touches s p.shown)

pub read_by_levels-requires-clause-tree : goal.read_by_levels-requires-clause-tree
read_by_levels-requires-clause-tree g c =
    let (t, h, b, few, fits) = c.requires.tree in
    let (s, p, cost) = c.subtree_around-subtree.ensures.subtree t h b few in
    (s, p.shown.tree)

use Rattle.std.proofs.Common.{◌∙◌, ap, arith, length-set}
use Rattle.bimap_tree.specs.Tree.{height, size}
use Rattle.bimap_tree.proofs.Filling.{parts, below, both_sides, told_size, told_height}
use Rattle.bimap_tree.proofs.Shown.{height_told}
use Rattle.bimap_tree.proofs.walk.+fill.Goals as goal

pub fill_high-fill_tree-requires : goal.fill_high-fill_tree-requires
fill_high-fill_tree-requires g t c κs within =
    let (node, x, h, el, er, few) = c.requires.tree in
    let (l, r, i, bl, br) = parts _ _ _ x h in
    let hl = below _ _ _ _ l i.left_stands bl el c.read-left_node.ensures.node in
    (omega (arith, told_height _ _ _ l hl, height_told _ _ x h.tree, ap height i.is), (within.0, (within.1, ((l, hl, omega (arith, few, ap size i.is)), c.requires.long))))

pub fill_high-fill_tree-requires-2 : goal.fill_high-fill_tree-requires-2
fill_high-fill_tree-requires-2 g t c κs within =
    let (node, x, h, el, er, few) = c.requires.tree in
    let (l, r, i, bl, br) = parts _ _ _ x h in
    let hl = below _ _ _ _ l i.left_stands bl el c.read-left_node.ensures.node in
    let hr = below _ _ _ _ r i.right_stands br er c.read-right_node.ensures.node in
    (omega (arith, told_height _ _ _ r hr, height_told _ _ x h.tree, ap height i.is), (within.0, (within.1, ((r, hr, omega (arith, few, ap size i.is, told_size _ _ _ l hl)), length-set _ _ _ ∙ c.fill_tree.array_long))))

pub fill_high-returns-clause-filled : goal.fill_high-returns-clause-filled
fill_high-returns-clause-filled g t c node x h el er few =
    both_sides _ _ _ _ _ _ _ _ _ _ _ x h el er c.read-left_node.ensures.node c.read-right_node.ensures.node few c.requires.long c.fill_tree.ensures.filled c.fill_tree-2.ensures.filled

pub fill_tree-returns-clause-filled : goal.fill_tree-returns-clause-filled
fill_tree-returns-clause-filled g t c x h few = c.fill_high.ensures.filled c.args.node x h c.in-Some-Some.is-0 c.in-Some-Some.is-1 few

pub fill_tree-returns-clause-touches : goal.fill_tree-returns-clause-touches
fill_tree-returns-clause-touches g t c x h = c.fill_high.ensures.touches c.args.node x h c.in-Some-Some.is-0 c.in-Some-Some.is-1

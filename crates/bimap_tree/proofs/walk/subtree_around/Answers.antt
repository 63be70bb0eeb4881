use Rattle.std.proofs.Common.{refl, ◌∙◌, ap, arith}
use Rattle.bimap_tree.specs.Tree.{size}
use Rattle.bimap_tree.proofs.Filling.{parts, below, told_size}
use Rattle.bimap_tree.proofs.Rows.{subtree_whole, subtree_left, subtree_right, subtree_within}
use Rattle.bimap_tree.proofs.Shown.{Stands-at, root_within, size-reading}
use Rattle.bimap_tree.proofs.walk.subtree_around.Goals as goal

pub loop-subtree-init : goal.loop-subtree-init
loop-subtree-init g c = record {
  parts = λ t h b few. (t, subtree_whole _ _ _ c.in-Some.at c.read.result t (below _ _ _ _ t h b c.in-Some.is c.read.ensures.node) refl few, omega (arith, c.read.ensures.touches));
  compared = c.read.ensures.comparisons;
}

pub read-left_node-requires : goal.read-left_node-requires
read-left_node-requires g c =
    let (t, h, b, few, fits) = c.requires.tree in
    let (s, p, cost) = c.loop-subtree.invariant.parts t h b few in
    let (l, r, i, bl, br) = parts _ _ _ s p.shown in
    root_within _ _ l (Stands-at _ _ _ l c.in-Some-Some.is-0 i.left_stands)

pub overflow_add-middle : goal.overflow_add-middle
overflow_add-middle g c =
    let (t, h, b, few, fits) = c.requires.tree in
    let (s, p, cost) = c.loop-subtree.invariant.parts t h b few in
    let (l, r, i, bl, br) = parts _ _ _ s p.shown in
    let n = told_size _ _ _ l (below _ _ _ _ l i.left_stands bl c.in-Some-Some.is-0 c.read-left_node.ensures.node) in
    omega (arith, fits, n, ap size i.is, size-reading t, subtree_within _ _ _ _ s p)

pub loop-subtree-preserved-then-rank-middle : goal.loop-subtree-preserved-then-rank-middle
loop-subtree-preserved-then-rank-middle g c = record {
  parts = λ t h b few. let (s, p, cost) = c.loop-subtree.invariant.parts t h b few in
      let (l, q, low) = subtree_left _ _ _ _ s p _ _ c.in-Some-Some.is-0 c.read-left_node.ensures.node c.if-rank-middle.true in
      (l, q, omega (arith, low, cost, c.read-left_node.ensures.touches));
  compared = c.read-left_node.ensures.comparisons ∙ c.loop-subtree.invariant.compared;
}

pub read-right_node-requires : goal.read-right_node-requires
read-right_node-requires g c =
    let (t, h, b, few, fits) = c.requires.tree in
    let (s, p, cost) = c.loop-subtree.invariant.parts t h b few in
    let (l, r, i, bl, br) = parts _ _ _ s p.shown in
    root_within _ _ r (Stands-at _ _ _ r c.in-Some-Some.is-1 i.right_stands)

pub loop-subtree-preserved : goal.loop-subtree-preserved
loop-subtree-preserved g c = record {
  parts = λ t h b few. let (s, p, cost) = c.loop-subtree.invariant.parts t h b few in
      let (r, q, low) = subtree_right _ _ _ _ s p _ _ _ _ c.in-Some-Some.is-0 c.in-Some-Some.is-1 c.read-left_node.ensures.node c.read-right_node.ensures.node c.if-rank-middle.false in
      (r, q, omega (arith, low, cost, c.read-left_node.ensures.touches, c.read-right_node.ensures.touches));
  compared = c.read-right_node.ensures.comparisons ∙ c.read-left_node.ensures.comparisons ∙ c.loop-subtree.invariant.compared;
}

use Rattle.std.proofs.Common.{◌+◌, ◌≤◌, arith, ◌∙◌}
use Rattle.bimap_tree.specs.Tree.{height}
use Rattle.bimap_tree.proofs.Heights.{height_below_size}
use Rattle.bimap_tree.proofs.Rotate.{no_rotation, turned, can_turned}
use Rattle.bimap_tree.proofs.Shown.{no_tree}
use Rattle.bimap_tree.proofs.link.rebalance.Goals as goal

pub overflow_add-far : goal.overflow_add-far
overflow_add-far g c = omega (arith, c.requires.2.link.fits, c.requires.4.height_is, height_below_size c.requires.1)

pub overflow_add-near : goal.overflow_add-near
overflow_add-near g c = omega (arith, c.requires.2.link.fits, c.requires.3.height_is, height_below_size c.requires.0)

pub unreachable-requires-in_default-root : goal.unreachable-requires-in_default-root
unreachable-requires-in_default-root g c =
    let f = c.requires.4 in
    omega (arith, c.if-far-near.true, f.height_is, no_tree _ _ _ record { root_is = f.root_is; shown = c.requires.2.link.far_shown } c.in_default-root.is)

pub rotate-requires-then-far-near : goal.rotate-requires-then-far-near
rotate-requires-then-far-near g c =
    let h = c.requires.2 in
    let n = c.requires.3 in
    let f = c.requires.4 in
    (c.requires.1, c.requires.0, can_turned _ _ _ _ h, f.root_is ∙ c.in-Some-root.is, n, omega (arith, c.if-far-near.true, n.height_is, f.height_is))

pub returns-then-far-near-clause-tree : goal.returns-then-far-near-clause-tree
returns-then-far-near-clause-tree g c n f h near far =
    let (t, m, i) = c.rotate-then-far-near.ensures.tree f n (can_turned _ _ _ _ h) (far.root_is ∙ c.in-Some-root.is) near (omega (arith, c.if-far-near.true, near.height_is, far.height_is)) in
    (t, m, turned _ _ _ _ _ _ t i)

pub returns-clause-tree : goal.returns-clause-tree
returns-clause-tree g c n f h near far =
    let a : height n ≤ height f + 1 = omega (arith, c.if-near-far.false, near.height_is, far.height_is) in
    let b : height f ≤ height n + 1 = omega (arith, c.if-far-near.false, near.height_is, far.height_is) in
    (_, c.link.ensures.measured n f near far, no_rotation _ _ _ _ n f h a b (c.link.ensures.linked n f near far))

use Rattle.std.proofs.Common.{ap, arith, length, not, subst, sym, ◌∙◌}
use Rattle.bimap_base.specs.NodesInCells.{CanCount, recounted}
use Rattle.std.specs.Prelude.{slice_set}
use Rattle.bimap_tree.specs.Tree.{branch}
use Rattle.bimap_tree.specs.Link.{Measures}
use Rattle.bimap_tree.specs.Path.{one_if}
use Rattle.bimap_tree.proofs.Branch.{root-branch, size-branch}
use Rattle.bimap_tree.proofs.Rises.{sister_stands, can_rebalance, can_count, child_there, counts, as_told, low, moved}
use Rattle.bimap_tree.proofs.Shown.{Stands-at}
use Rattle.bimap_tree.proofs.rise.rejoin.Goals as goal

pub recount-requires-clause-child : goal.recount-requires-clause-child
recount-requires-clause-child g c = child_there _ _ _ _ _ _ _ _ c.requires.3 _ c.requires.4.root_is

pub recount-requires-clause-count : goal.recount-requires-clause-count
recount-requires-clause-count g c =
    let h = c.requires.3 in
    (_, h.node_is, subst (λ b. CanCount (length c.args.cells.now) b c.args.node) c.if-grew.true (can_count _ _ _ _ _ _ _ _ h))

pub overflow_add-result : goal.overflow_add-result
overflow_add-result g c = omega (arith, (counts _ _ _ _ _ _ _ _ c.requires.3).0, ap one_if c.if-grew.true)

pub returns-then-child-node-clause-tree : goal.returns-then-child-node-clause-tree
returns-then-child-node-clause-tree g c sister s u h child =
    let written = c.recount.ensures.written _ h.node_is
    ∙ ap (λ b. slice_set c.args.cells.now c.args.at (recounted c.args.direction c.args.child.root b c.args.node)) (sym c.if-grew.true) in
    let r = low _ _ _ _ _ sister s u h _ child.root_is _ written c.if-grew.true (omega (arith, child.height_is, c.if-child-node.true)) in
    let measured : Measures _ (branch c.args.direction u c.args.at sister) = record {
      root_is = root-branch _ _ _ _;
      height_is = as_told _ _ _ _ _ sister s u h ∙ sym r.as_high;
      size_is = omega (arith, size-branch c.args.direction u c.args.at sister, ap one_if c.if-grew.true, ap (λ b. one_if (not b)) c.if-grew.true);
    } in
    (_, measured, r.linked, moved _ _ _ _ _ sister s u h _ _ r.linked)

pub rebalance-requires : goal.rebalance-requires
rebalance-requires g c =
    let h = c.requires.3 in
    let stands = Stands-at _ _ _ _ (sym c.children-root.ensures.far) (sister_stands _ _ _ _ _ _ _ _ h) in
    (c.requires.2, c.requires.0, can_rebalance _ _ _ _ _ _ _ _ h, c.requires.4, c.measure-sister.ensures.measured _ stands)

pub returns-clause-tree : goal.returns-clause-tree
returns-clause-tree g c sister s u h child =
    let stands = Stands-at _ _ _ _ (sym c.children-root.ensures.far) (sister_stands _ _ _ _ _ sister s u h) in
    let (t, m, b) = c.rebalance.ensures.tree u sister (can_rebalance _ _ _ _ _ _ _ _ h) child (c.measure-sister.ensures.measured sister stands) in
    (t, m, b, moved _ _ _ _ _ sister s u h _ t b)

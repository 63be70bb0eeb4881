use Rattle.std.proofs.Common.{◌≡◌, ◌+◌, ◌≤◌, Some, arith}
use Rattle.bimap_tree.specs.Link.{CanRebalance}
use Rattle.bimap_tree.specs.Tree.{Tree, branch, height, root_of}
use Rattle.bimap_tree.proofs.Rotate.{Inner, upper_of, inner_of, rebalanced_of, single_first, single_second, single_done, double_first, double_second, double_third, double_done}
use Rattle.bimap_tree.proofs.Shown.{Stands-at, root_within}
use Rattle.bimap_tree.proofs.link.rotate_parts.Given.{Over}
use Rattle.bimap_tree.proofs.link.rotate_parts.Goals as goal
use Rattle.bimap_tree.proofs.link.rotate_parts.Goals.{After-children-near_root}

pub measure-outer-requires : goal.measure-outer-requires
measure-outer-requires g c =
    let (a, b, u) = upper_of _ _ _ _ _ _ _ _ _ c.requires.2 c.requires.3 c.requires.5 c.read-upper.ensures.node c.children-outer_root.ensures.near c.children-outer_root.ensures.far in
    (a, u.outer_stands)

pub measure-inner-requires : goal.measure-inner-requires
measure-inner-requires g c =
    let (a, b, u) = upper_of _ _ _ _ _ _ _ _ _ c.requires.2 c.requires.3 c.requires.5 c.read-upper.ensures.node c.children-outer_root.ensures.near c.children-outer_root.ensures.far in
    (b, u.inner_stands)

pub link-lower-requires : goal.link-lower-requires
link-lower-requires g c =
    let (a, b, u) = upper_of _ _ _ _ _ _ _ _ _ c.requires.2 c.requires.3 c.requires.5 c.read-upper.ensures.node c.children-outer_root.ensures.near c.children-outer_root.ensures.far in
    (b, c.requires.1, (single_first _ _ _ _ a b _ u.can u.two).link, c.measure-inner.ensures.measured b u.inner_stands, c.requires.4)

pub link-requires : goal.link-requires
link-requires g c =
    let (a, b, u) = upper_of _ _ _ _ _ _ _ _ _ c.requires.2 c.requires.3 c.requires.5 c.read-upper.ensures.node c.children-outer_root.ensures.near c.children-outer_root.ensures.far in
    let inner = c.measure-inner.ensures.measured b u.inner_stands in
    (a, branch c.args.direction b c.args.place c.requires.1, (single_second _ _ _ _ a b _ u.can u.two _ (c.link-lower.ensures.linked b _ inner c.requires.4)).link, c.measure-outer.ensures.measured a u.outer_stands, c.link-lower.ensures.measured b _ inner c.requires.4)

pub returns-then-inner-outer-clause-tree : goal.returns-then-inner-outer-clause-tree
returns-then-inner-outer-clause-tree g c n f h root light two =
    let (a, b, u) = upper_of _ _ _ _ n f _ _ _ h root two c.read-upper.ensures.node c.children-outer_root.ensures.near c.children-outer_root.ensures.far in
    let outer = c.measure-outer.ensures.measured a u.outer_stands in
    let inner = c.measure-inner.ensures.measured b u.inner_stands in
    let lower = c.link-lower.ensures.measured b f inner light in
    let e1 = c.link-lower.ensures.linked b f inner light in
    let e2 = c.link.ensures.linked a _ outer lower in
    let le : height b ≤ height a = omega (arith, outer.height_is, inner.height_is, c.if-inner-outer.true) in
    (_, c.link.ensures.measured a _ outer lower, rebalanced_of _ _ _ _ n _ f _ u.is (single_done _ _ _ _ a b f u.can u.two _ e1 _ e2 le))

pub read-parts-requires : goal.read-parts-requires
read-parts-requires g c =
    let (a, b, u) = upper_of _ _ _ _ _ _ _ _ _ c.requires.2 c.requires.3 c.requires.5 c.read-upper.ensures.node c.children-outer_root.ensures.near c.children-outer_root.ensures.far in
    root_within _ _ b (Stands-at _ _ _ b c.in-Some.is u.inner_stands)

-- The inner tree is the higher one, and has two subtrees of its own.
the_inner : (g : Over) (c : After-children-near_root g) (n f : Tree) → CanRebalance c.args.cells.now c.args.place n f → root_of n ≡ Some c.args.heavy → height n ≡ height f + 2
    → (a : Tree) × (b : Tree) × (d : Tree) × Inner c.args.direction c.args.cells.now c.args.place c.args.heavy n f c.in-Some.middle c.children-outer_root.result.0 c.children-near_root.result.0 c.children-near_root.result.1 a b d
the_inner g c n f h root two =
    let (a, x, u) = upper_of _ _ _ _ n f _ _ _ h root two c.read-upper.ensures.node c.children-outer_root.ensures.near c.children-outer_root.ensures.far in
    let outer = c.measure-outer.ensures.measured a u.outer_stands in
    let inner = c.measure-inner.ensures.measured x u.inner_stands in
    let (b, d, v) = inner_of _ _ _ _ n f _ _ a x u (omega (arith, outer.height_is, inner.height_is, c.if-inner-outer.false)) _ c.in-Some.is _ c.read-parts.ensures.node _ _ c.children-near_root.ensures.near c.children-near_root.ensures.far in
    (a, b, d, v)

pub measure-near-requires : goal.measure-near-requires
measure-near-requires g c = let (a, b, d, v) = the_inner g (goal.at.measure-near-requires g c).After-children-near_root _ _ c.requires.2 c.requires.3 c.requires.5 in (b, v.near_stands)

pub measure-far-requires : goal.measure-far-requires
measure-far-requires g c = let (a, b, d, v) = the_inner g (goal.at.measure-far-requires g c).After-children-near_root _ _ c.requires.2 c.requires.3 c.requires.5 in (d, v.far_stands)

pub link-upper_side-requires : goal.link-upper_side-requires
link-upper_side-requires g c =
    let (a, b, d, v) = the_inner g (goal.at.link-upper_side-requires g c).After-children-near_root _ _ c.requires.2 c.requires.3 c.requires.5 in
    (a, b, (double_first _ _ _ _ _ a b d _ v.can v.two v.lt).link, c.measure-outer.ensures.measured a v.outer_stands, c.measure-near.ensures.measured b v.near_stands)

pub link-lower_side-requires : goal.link-lower_side-requires
link-lower_side-requires g c =
    let (a, b, d, v) = the_inner g (goal.at.link-lower_side-requires g c).After-children-near_root _ _ c.requires.2 c.requires.3 c.requires.5 in
    let e1 = c.link-upper_side.ensures.linked a b (c.measure-outer.ensures.measured a v.outer_stands) (c.measure-near.ensures.measured b v.near_stands) in
    (d, c.requires.1, (double_second _ _ _ _ _ a b d _ v.can v.two v.lt _ e1).link, c.measure-far.ensures.measured d v.far_stands, c.requires.4)

pub link-requires-2 : goal.link-requires-2
link-requires-2 g c =
    let (a, b, d, v) = the_inner g (goal.at.link-requires-2 g c).After-children-near_root _ _ c.requires.2 c.requires.3 c.requires.5 in
    let outer = c.measure-outer.ensures.measured a v.outer_stands in
    let near = c.measure-near.ensures.measured b v.near_stands in
    let far = c.measure-far.ensures.measured d v.far_stands in
    let e1 = c.link-upper_side.ensures.linked a b outer near in
    let e2 = c.link-lower_side.ensures.linked d _ far c.requires.4 in
    (_, _, (double_third _ _ _ _ _ a b d _ v.can v.two v.lt _ e1 _ e2).link, c.link-upper_side.ensures.measured a b outer near, c.link-lower_side.ensures.measured d _ far c.requires.4)

pub returns-clause-tree : goal.returns-clause-tree
returns-clause-tree g c n f h root light two =
    let (a, b, d, v) = the_inner g (goal.at.returns-clause-tree g c).After-children-near_root n f h root two in
    let outer = c.measure-outer.ensures.measured a v.outer_stands in
    let near = c.measure-near.ensures.measured b v.near_stands in
    let far = c.measure-far.ensures.measured d v.far_stands in
    let upper = c.link-upper_side.ensures.measured a b outer near in
    let lower = c.link-lower_side.ensures.measured d f far light in
    let done = double_done _ _ _ _ _ a b d f v.can v.two v.lt _ (c.link-upper_side.ensures.linked a b outer near) _ (c.link-lower_side.ensures.linked d f far light) _ (c.link-2.ensures.linked _ _ upper lower) in
    (_, c.link-2.ensures.measured _ _ upper lower, rebalanced_of _ _ _ _ n _ f _ v.is done)

use Rattle.std.proofs.Common.{arith, refl, rules}
use Rattle.bimap_tree.proofs.Shown.{height_told}
use Rattle.bimap_tree.proofs.UnderWay.{found_at, levels_on}
use Rattle.bimap_tree.proofs.descent.finish_in_tree.Goals as goal

pub returns-then-descent-clause-found : goal.returns-then-descent-clause-found
returns-then-descent-clause-found g c path s h =
    let (place, root, same) = c.requires.over c.if-descent.true in
    found_at _ _ _ _ s place h.seek root same

pub returns-clause-comparisons : goal.returns-clause-comparisons
returns-clause-comparisons g c =
    let seek = c.requires.follows.2.seek in
    omega (arith, c.route_in_tree.ensures.comparisons _ seek.tree, height_told _ _ _ seek.tree, levels_on c.args.cells.now c.args.descent c.if-descent.false)

pub returns-clause-touches : goal.returns-clause-touches
returns-clause-touches g c =
    let seek = c.requires.follows.2.seek in
    omega (arith, c.route_in_tree.ensures.alone refl _ seek.tree, height_told _ _ _ seek.tree, levels_on c.args.cells.now c.args.descent c.if-descent.false)

pub returns-then-descent-clause-follows : goal.returns-then-descent-clause-follows
returns-then-descent-clause-follows g c = search rules

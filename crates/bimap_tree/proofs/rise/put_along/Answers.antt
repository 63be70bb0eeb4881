use Rattle.std.proofs.Common.{arith, ◌∙◌, None, refl, lit<}
use Rattle.bimap_tree.specs.Tree.{leaf, fork}
use Rattle.bimap_tree.specs.Link.{Measures}
use Rattle.bimap_tree.proofs.Rises.{can_put, put_risen}
use Rattle.bimap_tree.proofs.rise.put_along.Goals as goal

-- The `Subtree` without a root describes the empty tree.
nothing : Measures record { root = None; height = 0; size = 0 } leaf
nothing = record { root_is = refl; height_is = refl; size_is = refl }

pub link-alone-requires : goal.link-alone-requires
link-alone-requires g c = (leaf, leaf, record { has_cell = c.requires.put.1.has_cell; near_shown = tt; far_shown = tt; room = omega (arith, c.requires.put.1.has_cell); near_low = omega arith; far_low = omega arith; fits = lit< tt }, nothing, nothing)

pub rise-requires : goal.rise-requires
rise-requires g c =
    let h = c.requires.put.1 in
    (_, leaf, fork leaf c.args.place leaf, can_put _ _ _ _ h _ (c.link-alone.ensures.linked leaf leaf nothing nothing) c.requires.whole, c.depth.ensures ∙ h.depth_is, rw c.depth.ensures h.deep, c.link-alone.ensures.measured leaf leaf nothing nothing, refl)

pub returns-clause-tree : goal.returns-clause-tree
returns-clause-tree g c path h =
    let e = c.link-alone.ensures.linked leaf leaf nothing nothing in
    put_risen _ _ path _ h _ e _ _ (c.rise.ensures.tree path leaf _ (can_put _ _ path _ h _ e c.requires.whole) (c.depth.ensures ∙ h.depth_is) (c.link-alone.ensures.measured leaf leaf nothing nothing) refl)

pub returns-clause-begins : goal.returns-clause-begins
returns-clause-begins g c path h =
    let e = c.link-alone.ensures.linked leaf leaf nothing nothing in
    c.rise.ensures.begins path leaf _ (can_put _ _ path _ h _ e c.requires.whole) (c.depth.ensures ∙ h.depth_is) (c.link-alone.ensures.measured leaf leaf nothing nothing) refl

pub returns-clause-touches : goal.returns-clause-touches
returns-clause-touches g c = omega arith

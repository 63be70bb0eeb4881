use Rattle.std.proofs.Common.{arith, ap, refl, ◌∙◌}
use Rattle.bimap_tree.specs.Path.{Path}
use Rattle.bimap_tree.specs.Remove.{CanTake, IsTaken}
use Rattle.bimap_tree.specs.Tree.{Tree, fork}
use Rattle.bimap_tree.proofs.Paths.{steps_within}
use Rattle.bimap_tree.proofs.Removes.{no_child, at_within, left_tree, right_tree, kept, depth_few, node_told, rises_left, rises_right, taken_left, taken_right, can_descend, low_within, first_within, rest_stands, was_height, rises_first, taken_first, path_followed, first_followed, can_replace, written_length, takes_over, taking, taken_of}
use Rattle.bimap_tree.proofs.Rises.{begins_anew}
use Rattle.bimap_tree.proofs.Shown.{there}
use Rattle.bimap_tree.proofs.remove.take_along.Given.{Over}
use Rattle.bimap_tree.proofs.remove.take_along.Goals as goal
use Rattle.bimap_tree.proofs.remove.take_along.Goals.{After-rise-root}

pub read-node-requires : goal.read-node-requires
read-node-requires g c = at_within _ _ _ _ _ _ c.requires.take.3

-- The place has no left child.
pub measure-child-requires : goal.measure-child-requires
measure-child-requires g c = (_, right_tree _ _ _ _ _ _ c.requires.take.3 _ c.read-node.ensures.node)

pub rise-requires : goal.rise-requires
rise-requires g c =
    let h = c.requires.take.3 in
    let none = no_child _ _ c.is_none.ensures c.if-is_none.true in
    let stands = right_tree _ _ _ _ _ _ h _ c.read-node.ensures.node in
    (_, _, _, rises_right _ _ _ _ _ _ h _ c.read-node.ensures.node c.requires.whole none, c.depth-depth.ensures ∙ h.depth_is, rw c.depth-depth.ensures (depth_few _ _ _ _ _ _ h), c.measure-child.ensures.measured _ stands, ap (λ n. n.height) (node_told _ _ _ _ _ _ h _ c.read-node.ensures.node))

pub returns-then-is_none-clause-tree : goal.returns-then-is_none-clause-tree
returns-then-is_none-clause-tree g c path l r h =
    let none = no_child _ _ c.is_none.ensures c.if-is_none.true in
    let stands = right_tree _ _ path l _ r h _ c.read-node.ensures.node in
    taken_right _ _ path l _ r h _ c.read-node.ensures.node none _ _
    (c.rise.ensures.tree path _ r (rises_right _ _ path l _ r h _ c.read-node.ensures.node c.requires.whole none) (c.depth-depth.ensures ∙ h.depth_is) (c.measure-child.ensures.measured r stands) (ap (λ n. n.height) (node_told _ _ path l _ r h _ c.read-node.ensures.node)))

pub returns-then-is_none-clause-begins : goal.returns-then-is_none-clause-begins
returns-then-is_none-clause-begins g c path l r h =
    let none = no_child _ _ c.is_none.ensures c.if-is_none.true in
    let stands = right_tree _ _ path l _ r h _ c.read-node.ensures.node in
    c.rise.ensures.begins path _ r (rises_right _ _ path l _ r h _ c.read-node.ensures.node c.requires.whole none) (c.depth-depth.ensures ∙ h.depth_is) (c.measure-child.ensures.measured r stands) (ap (λ n. n.height) (node_told _ _ path l _ r h _ c.read-node.ensures.node))

pub returns-then-is_none-clause-touches : goal.returns-then-is_none-clause-touches
returns-then-is_none-clause-touches g c path l r h = omega (arith, h.depth_is, c.depth-depth.ensures, steps_within path (fork l c.args.at r))

-- The place has no right child.
pub measure-child-requires-in_default : goal.measure-child-requires-in_default
measure-child-requires-in_default g c = (_, left_tree _ _ _ _ _ _ c.requires.take.3 _ c.read-node.ensures.node)

pub rise-requires-in_default : goal.rise-requires-in_default
rise-requires-in_default g c =
    let h = c.requires.take.3 in
    let stands = left_tree _ _ _ _ _ _ h _ c.read-node.ensures.node in
    (_, _, _, rises_left _ _ _ _ _ _ h _ c.read-node.ensures.node c.requires.whole c.in_default.is, c.depth-depth.ensures ∙ h.depth_is, rw c.depth-depth.ensures (depth_few _ _ _ _ _ _ h), c.measure-child-in_default.ensures.measured _ stands, ap (λ n. n.height) (node_told _ _ _ _ _ _ h _ c.read-node.ensures.node))

pub returns-in_default-clause-tree : goal.returns-in_default-clause-tree
returns-in_default-clause-tree g c path l r h =
    let stands = left_tree _ _ path l _ r h _ c.read-node.ensures.node in
    taken_left _ _ path l _ r h _ c.read-node.ensures.node c.in_default.is _ _
    (c.rise-in_default.ensures.tree path _ l (rises_left _ _ path l _ r h _ c.read-node.ensures.node c.requires.whole c.in_default.is) (c.depth-depth.ensures ∙ h.depth_is) (c.measure-child-in_default.ensures.measured l stands) (ap (λ n. n.height) (node_told _ _ path l _ r h _ c.read-node.ensures.node)))

pub returns-in_default-clause-begins : goal.returns-in_default-clause-begins
returns-in_default-clause-begins g c path l r h =
    let stands = left_tree _ _ path l _ r h _ c.read-node.ensures.node in
    c.rise-in_default.ensures.begins path _ l (rises_left _ _ path l _ r h _ c.read-node.ensures.node c.requires.whole c.in_default.is) (c.depth-depth.ensures ∙ h.depth_is) (c.measure-child-in_default.ensures.measured l stands) (ap (λ n. n.height) (node_told _ _ path l _ r h _ c.read-node.ensures.node))

pub returns-in_default-clause-touches : goal.returns-in_default-clause-touches
returns-in_default-clause-touches g c path l r h = omega (arith, h.depth_is, c.depth-depth.ensures, steps_within path (fork l c.args.at r))

-- The place has both children.
pub overflow_add-depth : goal.overflow_add-depth
overflow_add-depth g c = omega (arith, c.depth-depth.ensures, depth_few _ _ _ _ _ _ c.requires.take.3)

pub first_in_tree-first-requires : goal.first_in_tree-first-requires
first_in_tree-first-requires g c = (_, can_descend _ _ _ _ _ _ c.requires.take.3 _ c.read-node.ensures.node _ c.in-Some.is _ c.depth-depth.ensures)

pub read-last-requires : goal.read-last-requires
read-last-requires g c =
    let h = c.requires.take.3 in
    let (lefts, rest, i) = c.first_in_tree-first.ensures.first _ (can_descend _ _ _ _ _ _ h _ c.read-node.ensures.node _ c.in-Some.is _ c.depth-depth.ensures) in
    first_within _ (g.W.Steps.notes c.args.notes.now) c.requires.take.0 c.requires.take.1 c.args.at _ lefts rest (taking _ _ _ _ _ _ _ h i.whole)

pub measure-rest-requires : goal.measure-rest-requires
measure-rest-requires g c =
    let h = c.requires.take.3 in
    let (lefts, rest, i) = c.first_in_tree-first.ensures.first _ (can_descend _ _ _ _ _ _ h _ c.read-node.ensures.node _ c.in-Some.is _ c.depth-depth.ensures) in
    (rest, rest_stands _ (g.W.Steps.notes c.args.notes.now) c.requires.take.0 c.requires.take.1 c.args.at _ lefts rest (taking _ _ _ _ _ _ _ h i.whole) _ c.read-last.ensures.node)

pub write-requires : goal.write-requires
write-requires g c =
    let h = c.requires.take.3 in
    let (lefts, rest, i) = c.first_in_tree-first.ensures.first _ (can_descend _ _ _ _ _ _ h _ c.read-node.ensures.node _ c.in-Some.is _ c.depth-depth.ensures) in
    let (low, few) = kept _ _ _ _ _ _ h _ c.read-node.ensures.node in
    record {
      place = first_within _ (g.W.Steps.notes c.args.notes.now) c.requires.take.0 c.requires.take.1 c.args.at _ lefts rest (taking _ _ _ _ _ _ _ h i.whole);
      left = there _ _ _ (left_tree _ _ _ _ _ _ h _ c.read-node.ensures.node);
      right = there _ _ _ (right_tree _ _ _ _ _ _ h _ c.read-node.ensures.node);
      height = low;
      size = few;
    }

pub replace_child-requires-clause-replace : goal.replace_child-requires-clause-replace
replace_child-requires-clause-replace g c =
    let h = c.requires.take.3 in
    let (lefts, rest, i) = c.first_in_tree-first.ensures.first _ (can_descend _ _ _ _ _ _ h _ c.read-node.ensures.node _ c.in-Some.is _ c.depth-depth.ensures) in
    let h2 = taking _ _ _ _ _ _ _ h i.whole in
    let is = c.depth-depth.ensures ∙ h.depth_is in
    (_, _, can_replace _ _ c.requires.take.0 c.requires.take.1 c.args.at _ lefts rest h2 _ _ c.write.ensures.written _ _ (path_followed _ _ _ _ _ _ _ lefts rest h.follows is i) i.kept_is c.requires.whole is)

pub replace_child-requires-clause-place : goal.replace_child-requires-clause-place
replace_child-requires-clause-place g c =
    let h = c.requires.take.3 in
    let (lefts, rest, i) = c.first_in_tree-first.ensures.first _ (can_descend _ _ _ _ _ _ h _ c.read-node.ensures.node _ c.in-Some.is _ c.depth-depth.ensures) in
    let h2 = taking _ _ _ _ _ _ _ h i.whole in
    omega (arith, first_within _ (g.W.Steps.notes c.args.notes.now) c.requires.take.0 c.requires.take.1 c.args.at _ lefts rest h2, written_length _ (g.W.Steps.notes c.args.notes.now) c.requires.take.0 c.requires.take.1 c.args.at _ lefts rest h2 _ _ c.write.ensures.written)

pub note-requires : goal.note-requires
note-requires g c =
    let h = c.requires.take.3 in
    let (lefts, rest, i) = c.first_in_tree-first.ensures.first _ (can_descend _ _ _ _ _ _ h _ c.read-node.ensures.node _ c.in-Some.is _ c.depth-depth.ensures) in
    omega (arith, h.depth_is, c.depth-depth.ensures, h.deep, (low_within _ _ _ _ _ _ h _ _ _ _ _ lefts rest c.depth-depth.ensures i).1)

pub rise-root-requires : goal.rise-root-requires
rise-root-requires g c =
    let h = c.requires.take.3 in
    let (lefts, rest, i) = c.first_in_tree-first.ensures.first _ (can_descend _ _ _ _ _ _ h _ c.read-node.ensures.node _ c.in-Some.is _ c.depth-depth.ensures) in
    let h2 = taking _ _ _ _ _ _ _ h i.whole in
    let few = low_within _ _ _ _ _ _ h _ _ _ _ _ lefts rest c.depth-depth.ensures i in
    let is = c.depth-depth.ensures ∙ h.depth_is in
    let (follows, low) = first_followed c.requires.take.0 c.requires.take.1 (g.W.Steps.notes c.args.notes.now) (g.W.Steps.notes c.first_in_tree-first.new.notes) (g.W.Steps.notes c.note.new.self) _ _ _ _ lefts rest h.follows is i c.note.ensures.noted c.note.ensures.kept in
    let stands = rest_stands _ (g.W.Steps.notes c.args.notes.now) c.requires.take.0 c.requires.take.1 c.args.at _ lefts rest h2 _ c.read-last.ensures.node in
    let can = can_replace _ _ c.requires.take.0 c.requires.take.1 c.args.at _ lefts rest h2 _ _ c.write.ensures.written _ _ (path_followed _ _ _ _ _ _ _ lefts rest h.follows is i) i.kept_is c.requires.whole is in
    let over = takes_over _ _ c.requires.take.0 c.requires.take.1 c.args.at _ lefts rest h2 _ _ c.write.ensures.written _ (c.replace_child.ensures.replaced _ _ _ can refl refl refl) c.replace_child.ensures.length in
    (_, _, rest, rises_first _ _ c.requires.take.0 c.requires.take.1 c.args.at _ lefts rest h2 _ c.read-node.ensures.node _ c.write.ensures.written _ over c.requires.whole _ (c.note.ensures.kept ∙ i.kept_is) follows, low, omega (arith, h.deep, few.0), c.measure-rest.ensures.measured rest stands, was_height _ (g.W.Steps.notes c.args.notes.now) c.requires.take.0 c.requires.take.1 c.args.at _ lefts rest h2 _ c.read-last.ensures.node)

-- The tree that is left.
the_tree : (g : Over) (c : After-rise-root g) (path : Path) (l r : Tree) → CanTake c.args.cells.now (g.W.Steps.notes c.args.notes.now) path l c.args.at r → (v : Tree) × IsTaken c.args.cells.now c.rise-root.new.cells path l r c.rise-root.result v
the_tree g c path l r h =
    let (lefts, rest, i) = c.first_in_tree-first.ensures.first r (can_descend _ _ path l _ r h _ c.read-node.ensures.node _ c.in-Some.is _ c.depth-depth.ensures) in
    let h2 = taking _ _ path l _ r _ h i.whole in
    let is = c.depth-depth.ensures ∙ h.depth_is in
    let (follows, low) = first_followed path l (g.W.Steps.notes c.args.notes.now) (g.W.Steps.notes c.first_in_tree-first.new.notes) (g.W.Steps.notes c.note.new.self) _ _ _ r lefts rest h.follows is i c.note.ensures.noted c.note.ensures.kept in
    let stands = rest_stands _ _ path l c.args.at _ lefts rest h2 _ c.read-last.ensures.node in
    let can = can_replace _ _ path l c.args.at _ lefts rest h2 _ _ c.write.ensures.written _ _ (path_followed path _ _ _ _ _ r lefts rest h.follows is i) i.kept_is c.requires.whole is in
    let over = takes_over _ _ path l c.args.at _ lefts rest h2 _ _ c.write.ensures.written _ (c.replace_child.ensures.replaced path _ _ can refl refl refl) c.replace_child.ensures.length in
    taken_of _ _ path l r _ _ i.whole
    (taken_first _ _ path l c.args.at _ lefts rest h2 _ c.read-node.ensures.node _ c.write.ensures.written _ over _ _
    (c.rise-root.ensures.tree _ _ rest (rises_first _ _ path l c.args.at _ lefts rest h2 _ c.read-node.ensures.node _ c.write.ensures.written _ over c.requires.whole _ (c.note.ensures.kept ∙ i.kept_is) follows) low (c.measure-rest.ensures.measured rest stands) (was_height _ _ path l c.args.at _ lefts rest h2 _ c.read-last.ensures.node)))

pub returns-clause-tree : goal.returns-clause-tree
returns-clause-tree g c = the_tree g (goal.at.returns-clause-tree g c).After-rise-root

pub returns-clause-begins : goal.returns-clause-begins
returns-clause-begins g c path l r h =
    let (v, i) = the_tree g (goal.at.returns-clause-begins g c).After-rise-root path l r h in
    (_, _, c.keep.ensures, begins_anew _ _ v i.tree _ path)

pub returns-clause-touches : goal.returns-clause-touches
returns-clause-touches g c path l r h =
    let (lefts, rest, i) = c.first_in_tree-first.ensures.first r (can_descend _ _ path l _ r h _ c.read-node.ensures.node _ c.in-Some.is _ c.depth-depth.ensures) in
    let few = low_within _ _ path l _ r h _ _ _ _ _ lefts rest c.depth-depth.ensures i in
    omega (arith, few.0, few.1, c.first_in_tree-first.ensures.touches r (can_descend _ _ path l _ r h _ c.read-node.ensures.node _ c.in-Some.is _ c.depth-depth.ensures))

use Rattle.std.proofs.Common.{arith, refl, sym, ◌∙◌}
use Rattle.bimap_tree.proofs.Climbs.{climbs_none, climbs_end, climbs_begin, climbs_on, rejoins, rejoined}
use Rattle.bimap_tree.proofs.Rises.{as_told, stands_at_top}
use Rattle.bimap_tree.proofs.rise.rise.Goals as goal

pub loop-child-init : goal.loop-child-init
loop-child-init g c = record { climbs = climbs_none _ _ _ _ _ _ c.requires.5; compared = refl; touched = omega arith }

pub returns-then-depth-eq0-clause-tree : goal.returns-then-depth-eq0-clause-tree
returns-then-depth-eq0-clause-tree g c path s u rise e child was =
    climbs_end _ _ _ _ _ _ _ _ _ c.loop-child.invariant.climbs (omega arith) _ (λ x t known. known.measured.root_is) path s u record { rise = rise; start_is = e; known = record { measured = child; was_high = was } }

pub returns-then-depth-eq0-clause-begins : goal.returns-then-depth-eq0-clause-begins
returns-then-depth-eq0-clause-begins g c path s u rise e child was = (
  _,
  _,
  c.keep.ensures,
  climbs_begin _ _ _ _ _ _ _ _ _ c.loop-child.invariant.climbs _ _ _ _ (omega arith) (λ x t known. known.measured.root_is) path s u record { rise = rise; start_is = e; known = record { measured = child; was_high = was } }
      (λ up x t r is known. stands_at_top _ _ up _ x t _ _ r is (omega arith) known.measured.root_is),
)

pub step-at-requires : goal.step-at-requires
step-at-requires g c = omega (arith, c.loop-child.invariant.climbs.deep)

pub read-node-requires : goal.read-node-requires
read-node-requires g c =
    let (node, sister, x, t, h, known) = rejoined _ _ _ _ _ _ _ _ _ c.loop-child.invariant.climbs _ _ (omega arith) c.step-at.ensures _ _ _ record { rise = c.requires.3; start_is = c.requires.4; known = record { measured = c.requires.6; was_high = c.requires.7 } } in
    h.has_cell

pub rejoin-child-requires : goal.rejoin-child-requires
rejoin-child-requires g c =
    let (sister, x, t, h, known) = rejoins _ _ _ _ _ _ _ _ _ c.loop-child.invariant.climbs _ _ (omega arith) c.step-at.ensures _ _ _ record { rise = c.requires.3; start_is = c.requires.4; known = record { measured = c.requires.6; was_high = c.requires.7 } } _ c.read-node.ensures.node in
    (sister, x, t, h, known.measured)

pub loop-child-preserved : goal.loop-child-preserved
loop-child-preserved g c =
    record {
      climbs = climbs_on _ _ _ _ _ _ _ _ _ c.loop-child.invariant.climbs _ _ (omega arith) c.step-at.ensures _ c.read-node.ensures.node _ _ (λ sister x t h known.
          let (y, m, b, moves) = c.rejoin-child.ensures.tree sister x t h known.measured in
          (y, record { tree = b; moves = moves; known = record { measured = m; was_high = as_told _ _ _ _ _ sister x t h }; alone = λ no. absurd no }));
      compared = omega arith;
      touched = omega arith;
    }

pub recount-requires : goal.recount-requires
recount-requires g c =
    let d = c.loop-child.invariant.climbs in
    let (up, x, t, r, e, known, same, alike, rest) = d.alike _ _ _ record { rise = c.requires.3; start_is = c.requires.4; known = record { measured = c.requires.6; was_high = c.requires.7 } } in
    (up, x, t, r, e, d.deep, known.measured.root_is, sym known.measured.height_is ∙ c.loop-child-test.false ∙ known.was_high)

pub returns-clause-tree : goal.returns-clause-tree
returns-clause-tree g c path s u rise e child was =
    let (up, x, t, r, deep, known, same, alike, rest) = c.loop-child.invariant.climbs.alike path s u record { rise = rise; start_is = e; known = record { measured = child; was_high = was } } in
    let (v, done) = c.recount.ensures.tree up x t r deep known.measured.root_is (sym known.measured.height_is ∙ c.loop-child-test.false ∙ known.was_high) in
    (v, rest _ _ v done)

pub returns-clause-begins : goal.returns-clause-begins
returns-clause-begins g c path s u rise e child was = (
  _,
  _,
  c.keep-2.ensures,
  climbs_begin _ _ _ _ _ _ _ _ _ c.loop-child.invariant.climbs _ _ _ _ refl (λ x t known. known.measured.root_is) path s u record { rise = rise; start_is = e; known = record { measured = child; was_high = was } }
      (λ up x t r is known. c.recount.ensures.same_route up x t r is known.measured.root_is (sym known.measured.height_is ∙ c.loop-child-test.false ∙ known.was_high)),
)

pub returns-clause-touches : goal.returns-clause-touches
returns-clause-touches g c = omega arith

use Rattle.std.proofs.Common.{arith, refl, ◌∙◌}
use Rattle.bimap_tree.proofs.Branch.{root-branch}
use Rattle.bimap_tree.proofs.Climbs.{Stays, climbs_none, climbs_end, climbs_same, climbs_on, rejoined}
use Rattle.bimap_tree.proofs.Rises.{at_top, stands_at_top, counted_alone, steady, can_count, child_there, moved}
use Rattle.bimap_tree.proofs.rise.recount.Goals as goal

pub returns-then-depth-eq0-clause-tree : goal.returns-then-depth-eq0-clause-tree
returns-then-depth-eq0-clause-tree g c path s u rise e root level = at_top _ _ path _ s u _ _ rise e c.if-depth-eq0.true root

pub returns-then-depth-eq0-clause-same_route : goal.returns-then-depth-eq0-clause-same_route
returns-then-depth-eq0-clause-same_route g c path s u rise e root level = stands_at_top _ _ path _ s u _ _ rise e c.if-depth-eq0.true root

pub recount-requires-clause-child : goal.recount-requires-clause-child
recount-requires-clause-child g c =
    let (node, sister, x, t, h, known) = rejoined _ _ _ _ _ _ _ _ _ (climbs_none _ _ _ _ (Stays c.args.child) (Unit {0}) c.requires.5) _ _ (omega arith) c.step-at.ensures _ _ _ record { rise = c.requires.3; start_is = c.requires.4; known = record { root_is = c.requires.6; as_high = c.requires.7 } } in
    child_there _ _ _ _ _ sister x t h _ known.root_is

pub recount-requires-clause-count : goal.recount-requires-clause-count
recount-requires-clause-count g c =
    let (node, sister, x, t, h, known) = rejoined _ _ _ _ _ _ _ _ _ (climbs_none _ _ _ _ (Stays c.args.child) (Unit {0}) c.requires.5) _ _ (omega arith) c.step-at.ensures _ _ _ record { rise = c.requires.3; start_is = c.requires.4; known = record { root_is = c.requires.6; as_high = c.requires.7 } } in
    (node, h.node_is, can_count _ _ _ _ _ sister x t h)

pub loop-depth-init : goal.loop-depth-init
loop-depth-init g c =
    let (node, _, _, _, is, _) = rejoined _ _ _ _ _ _ _ _ _ (climbs_none _ _ _ _ (Stays c.args.child) (Unit {0}) c.requires.5) _ _ (omega arith) c.step-at.ensures _ _ _ record { rise = c.requires.3; start_is = c.requires.4; known = record { root_is = c.requires.6; as_high = c.requires.7 } } in
    record {
      climbs = climbs_on _ _ _ _ _ _ _ _ _ (climbs_none _ _ _ _ (Stays c.args.child) (Unit {0}) c.requires.5) _ _ (omega arith) c.step-at.ensures node is.node_is _ _ (λ sister x t h known.
          let r = steady _ _ _ _ _ sister x t h _ known.root_is _ (c.recount.ensures.written node is.node_is) known.as_high in
          (_, record { tree = r.linked; moves = moved _ _ _ _ _ sister x t h _ _ r.linked; known = record { was_at = root-branch _ _ _ _; root_is = root-branch _ _ _ _; as_high = r.as_high }; alone = λ unmoved. refl }));
      compared = omega arith;
      touched = omega arith;
    }

pub count-requires : goal.count-requires
count-requires g c =
    let (node, sister, x, t, h, known) = rejoined _ _ _ _ _ _ _ _ _ c.loop-depth.invariant.climbs _ _ (omega arith) c.step-at-in-loop-depth.ensures _ _ _ record { rise = c.requires.3; start_is = c.requires.4; known = record { root_is = c.requires.6; as_high = c.requires.7 } } in
    (node, h.node_is, can_count _ _ _ _ _ sister x t h)

pub loop-depth-preserved : goal.loop-depth-preserved
loop-depth-preserved g c =
    let (node, _, _, _, is, _) = rejoined _ _ _ _ _ _ _ _ _ c.loop-depth.invariant.climbs _ _ (omega arith) c.step-at-in-loop-depth.ensures _ _ _ record { rise = c.requires.3; start_is = c.requires.4; known = record { root_is = c.requires.6; as_high = c.requires.7 } } in
    record {
      climbs = climbs_on _ _ _ _ _ _ _ _ _ c.loop-depth.invariant.climbs _ _ (omega arith) c.step-at-in-loop-depth.ensures node is.node_is _ _ (λ sister x t h known.
          let written = counted_alone _ _ _ node _ _ _ (h.told.near_is ∙ known.was_at) (c.count.ensures.written node is.node_is) in
          let r = steady _ _ _ _ _ sister x t h _ known.root_is _ written known.as_high in
          (_, record { tree = r.linked; moves = moved _ _ _ _ _ sister x t h _ _ r.linked; known = record { was_at = root-branch _ _ _ _; root_is = root-branch _ _ _ _; as_high = r.as_high }; alone = λ unmoved. refl }));
      compared = omega arith;
      touched = omega arith;
    }

pub returns-clause-tree : goal.returns-clause-tree
returns-clause-tree g c path s u rise e root level =
    climbs_end _ _ _ _ _ _ _ _ _ c.loop-depth.invariant.climbs (omega arith) _ (λ x t known. known.root_is) path s u record { rise = rise; start_is = e; known = record { root_is = root; as_high = level } }

pub returns-clause-same_route : goal.returns-clause-same_route
returns-clause-same_route g c path s u rise e root level =
    climbs_same _ _ _ _ _ _ _ _ _ c.loop-depth.invariant.climbs (omega arith) _ (λ x t known. known.root_is) path s u record { rise = rise; start_is = e; known = record { root_is = root; as_high = level } } tt

pub returns-clause-touches : goal.returns-clause-touches
returns-clause-touches g c = omega arith

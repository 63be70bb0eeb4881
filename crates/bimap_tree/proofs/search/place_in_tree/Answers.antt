use Rattle.std.proofs.Common.{arith, true, false, refl}
use Rattle.bimap_tree.proofs.Descents.{costs_none, costs_on, costs_last, cell_within, falls, leads_top, leads_none, leads_before, leads_here, leads_left, leads_right}
use Rattle.bimap_tree.proofs.search.place_in_tree.Goals as goal

pub loop-root-init : goal.loop-root-init
loop-root-init g c = record { leads = leads_top _ _ _; compared = refl; touched = costs_none _ _ 2 _ }

pub read-node-requires : goal.read-node-requires
read-node-requires g c = cell_within _ _ _ _ _ _ c.loop-root.invariant.touched _ c.in-Some.is _ c.requires.1

pub measure-before-requires : goal.measure-before-requires
measure-before-requires g c = leads_before _ _ _ _ _ c.loop-root.invariant.leads _ c.in-Some.is _ c.read-node.ensures.node _ c.requires.1 c.requires.2

pub returns-then-rank-before-clause-place : goal.returns-then-rank-before-clause-place
returns-then-rank-before-clause-place g c =
    leads_here _ _ _ _ _ c.loop-root.invariant.leads _ c.in-Some.is _ c.read-node.ensures.node _ (λ l h. (c.measure-before.ensures.measured l h).size_is) c.if-rank-before.true

pub returns-then-rank-before-clause-touches : goal.returns-then-rank-before-clause-touches
returns-then-rank-before-clause-touches g c t h = costs_last _ _ _ _ _ _ c.loop-root.invariant.touched _ c.in-Some.is _ c.read-node.ensures.node true _ (omega arith) t h

pub loop-root-smaller-then-rank-before-2 : goal.loop-root-smaller-then-rank-before-2
loop-root-smaller-then-rank-before-2 g c = falls _ _ _ _ _ _ c.loop-root.invariant.touched _ c.in-Some.is _ c.read-node.ensures.node false _ refl _ c.requires.1

pub loop-root-preserved-then-rank-before-2 : goal.loop-root-preserved-then-rank-before-2
loop-root-preserved-then-rank-before-2 g c =
    record {
      leads = leads_left _ _ _ _ _ c.loop-root.invariant.leads _ c.in-Some.is _ c.read-node.ensures.node _ (λ l h. (c.measure-before.ensures.measured l h).size_is) c.if-rank-before-2.true;
      compared = omega arith;
      touched = costs_on _ _ _ _ _ _ c.loop-root.invariant.touched _ c.in-Some.is _ c.read-node.ensures.node false _ refl _ (omega arith);
    }

pub loop-root-smaller : goal.loop-root-smaller
loop-root-smaller g c = falls _ _ _ _ _ _ c.loop-root.invariant.touched _ c.in-Some.is _ c.read-node.ensures.node true _ refl _ c.requires.1

pub loop-root-preserved : goal.loop-root-preserved
loop-root-preserved g c =
    record {
      leads = leads_right _ _ _ _ _ c.loop-root.invariant.leads _ c.in-Some.is _ c.read-node.ensures.node _ (λ l h. (c.measure-before.ensures.measured l h).size_is) (omega (arith, c.if-rank-before.false));
      compared = omega arith;
      touched = costs_on _ _ _ _ _ _ c.loop-root.invariant.touched _ c.in-Some.is _ c.read-node.ensures.node true _ refl _ (omega arith);
    }

pub unreachable-requires : goal.unreachable-requires
unreachable-requires g c = leads_none _ _ _ _ _ c.loop-root.invariant.leads c.in_default.is _ c.requires.1 c.requires.2

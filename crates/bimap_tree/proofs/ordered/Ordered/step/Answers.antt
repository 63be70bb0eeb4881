use Rattle.std.proofs.Common.{◌+◌, ◌≤◌, ◌<◌, ap, subst}
use Rattle.bimap_base.specs.NodesInCells.{nodes_in}
use Rattle.bimap_tree.specs.Descent.{levels_left}
use Rattle.bimap_tree.proofs.UnderWay.{can_step, goes_further, goes_down, spends}
use Rattle.bimap_tree.proofs.ordered.Ordered.step.Goals as goal

pub step_in_tree-requires : goal.step_in_tree-requires
step_in_tree-requires g c = can_step _ _ _ _ c.self.invariant.0 c.self.view_is _ _ g.met.K.Keys.total c.requires.ascends _ _ _ c.requires.under_way

pub returns-clause-under_way : goal.returns-clause-under_way
returns-clause-under_way g c = goes_further _ _ _ _ c.self.invariant.0 c.self.view_is _ _ g.met.K.Keys.total c.requires.ascends _ _ _ _ c.requires.under_way _ c.step_in_tree.ensures.top c.step_in_tree.ensures.none c.step_in_tree.ensures.goes c.step_in_tree.ensures.found

pub returns-clause-went : goal.returns-clause-went
returns-clause-went g c went =
    subst (λ ns. levels_left ns c.step_in_tree.new.descent < levels_left ns c.args.descent.now) (ap (λ v. v.nodes) c.self.view_is)
    (goes_down (nodes_in c.self.inside.cells) c.args.descent.now c.step_in_tree.new.descent c.step_in_tree.ensures.top c.step_in_tree.ensures.none (λ p t. (c.requires.under_way.whole p t).1) (c.step_in_tree.ensures.went went))

pub returns-clause-comparisons : goal.returns-clause-comparisons
returns-clause-comparisons g c =
    subst (λ ns. g.M.Meter.comparisons c.step_in_tree.new.meter + levels_left ns c.step_in_tree.new.descent ≤ g.M.Meter.comparisons c.args.meter.now + levels_left ns c.args.descent.now) (ap (λ v. v.nodes) c.self.view_is)
    (spends (nodes_in c.self.inside.cells) c.args.descent.now c.step_in_tree.new.descent c.step_in_tree.ensures.top c.step_in_tree.ensures.none (λ p t. (c.requires.under_way.whole p t).1) _ _ c.step_in_tree.ensures.comparisons)

pub returns-clause-touches : goal.returns-clause-touches
returns-clause-touches g c =
    subst (λ ns. g.M.Meter.touches c.step_in_tree.new.meter + levels_left ns c.step_in_tree.new.descent ≤ g.M.Meter.touches c.args.meter.now + levels_left ns c.args.descent.now) (ap (λ v. v.nodes) c.self.view_is)
    (spends (nodes_in c.self.inside.cells) c.args.descent.now c.step_in_tree.new.descent c.step_in_tree.ensures.top c.step_in_tree.ensures.none (λ p t. (c.requires.under_way.whole p t).1) _ _ c.step_in_tree.ensures.touches)

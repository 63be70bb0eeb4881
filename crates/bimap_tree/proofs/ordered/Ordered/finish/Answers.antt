use Rattle.std.proofs.Common.{inl, inr, arith, refl, ap}
use Rattle.bimap_tree.specs.Descent.{levels_below}
use Rattle.bimap_tree.specs.IndexView.{height_at}
use Rattle.bimap_tree.proofs.Found.{found_in, none_in}
use Rattle.bimap_tree.proofs.UnderWay.{at_none, finds_on, goes_on_down, is_down, leads_on, levels_down, levels_whole, of_noted, some_or_none}
use Rattle.bimap_tree.proofs.ordered.Ordered.finish.Goals as goal

-- The last place is tried first, or the index lists nothing.
pub returns-then-is_whole-clause-comparisons : goal.returns-then-is_whole-clause-comparisons
returns-then-is_whole-clause-comparisons g c =
    let (none, no_step) = c.is_whole.ensures.whole c.if-is_whole.true in
    elim (some_or_none c.args.descent.top) [
      | inl t ↦ omega (arith, c.find_from_last.ensures.comparisons, levels_whole c.args.self.now.nodes c.args.descent t.0 t.1, ap (λ x. height_at c.args.self.now.nodes x) (c.requires.under_way.whole t.0 t.1).0)
      | inr n ↦ omega (arith, c.find_from_last.ensures.empty (at_none _ _ _ _ (c.requires.under_way.down n) none no_step))
    ]

pub returns-then-is_whole-clause-touches : goal.returns-then-is_whole-clause-touches
returns-then-is_whole-clause-touches g c =
    let (none, no_step) = c.is_whole.ensures.whole c.if-is_whole.true in
    elim (some_or_none c.args.descent.top) [
      | inl t ↦ omega (arith, c.find_from_last.ensures.touches, levels_whole c.args.self.now.nodes c.args.descent t.0 t.1, ap (λ x. height_at c.args.self.now.nodes x) (c.requires.under_way.whole t.0 t.1).0)
      | inr n ↦ omega (arith, c.find_from_last.ensures.touches, ap (λ x. height_at c.args.self.now.nodes x) (at_none _ _ _ _ (c.requires.under_way.down n) none no_step))
    ]

-- The search goes on where it is.
pub finish_in_tree-found-requires-clause-follows : goal.finish_in_tree-found-requires-clause-follows
finish_in_tree-found-requires-clause-follows g c =
    let n = is_down _ _ _ _ c.requires.under_way (c.is_whole.ensures.down c.if-is_whole.false) in
    (_, _, (goes_on_down _ _ _ _ c.self.invariant.0 c.self.view_is _ _ g.met.K.Keys.total c.requires.ascends _ _ _ (c.requires.under_way.down n)).0)

pub finish_in_tree-found-requires-clause-over : goal.finish_in_tree-found-requires-clause-over
finish_in_tree-found-requires-clause-over g c = (c.requires.under_way.down (is_down _ _ _ _ c.requires.under_way (c.is_whole.ensures.down c.if-is_whole.false))).found

pub returns : goal.returns
returns g c =
    let n = is_down _ _ _ _ c.requires.under_way (c.is_whole.ensures.down c.if-is_whole.false) in
    let d = c.requires.under_way.down n in
    let first = finds_on _ _ _ _ c.self.invariant.0 c.self.view_is _ _ g.met.K.Keys.total c.requires.ascends _ _ _ d _ c.finish_in_tree-found.ensures.found in
    record {
      found = found_in _ _ _ first;
      none = none_in _ _ _ first;
      route = of_noted _ _ c.finish_in_tree-found.new.route _ _ refl refl refl (leads_on _ _ _ _ c.self.invariant.0 c.self.view_is _ _ g.met.K.Keys.total c.requires.ascends _ _ _ d _ _ c.finish_in_tree-found.ensures.follows);
      comparisons = omega (arith, c.finish_in_tree-found.ensures.comparisons, levels_down c.args.self.now.nodes c.args.descent n, ap (λ v. levels_below v.nodes c.args.descent) c.self.view_is);
      touches = omega (arith, c.finish_in_tree-found.ensures.touches, levels_down c.args.self.now.nodes c.args.descent n, ap (λ v. levels_below v.nodes c.args.descent) c.self.view_is);
    }

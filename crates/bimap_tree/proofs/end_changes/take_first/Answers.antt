use Rattle.std.proofs.Common.{◌∙◌, Some, true, false, ap, arith, refl, subst, sym}
use Rattle.bimap_base.specs.NodesInCells.{nodes_in}
use Rattle.bimap_tree.specs.Ends.{AreKept, HasEnd, IsKept, LeadsToEnd}
use Rattle.bimap_tree.specs.IndexView.{tree_in}
use Rattle.bimap_tree.specs.Path.{wanted}
use Rattle.bimap_tree.specs.Route.{IsFollowed}
use Rattle.bimap_tree.specs.Tree.{Tree, leaf, branch, height}
use Rattle.bimap_tree.proofs.AtEnds.{before_end, end_followed, taken_at}
use Rattle.bimap_tree.proofs.Whole.{can_take, end, is_whole, take_root}
use Rattle.bimap_tree.proofs.end_changes.take_first.Given.{Over}
use Rattle.bimap_tree.proofs.end_changes.take_first.Goals as goal
use Rattle.bimap_tree.proofs.end_changes.take_first.Goals.{After-deref_mut}

abbrev Tree-before : (g : Over) → After-deref_mut g → Tree
Tree-before g c = tree_in (nodes_in c.args.cells.now) c.args.root

-- Each of the two routes is kept.
kept : (g : Over) (c : After-deref_mut g) → IsKept false c.deref_mut.result.now.first (Tree-before g c) × IsKept true c.deref_mut.result.now.last (Tree-before g c)
kept g c =
    let both : AreKept (Some c.in-Some.ends) (Tree-before g c) = subst (λ o. AreKept o (Tree-before g c)) c.in-Some.is (c.requires.kept c.requires.first.0) in
    (subst (λ x. IsKept false x.first (Tree-before g c)) (sym c.deref_mut.ensures.value) both.0, subst (λ x. IsKept true x.last (Tree-before g c)) (sym c.deref_mut.ensures.value) both.1)

the_end : (g : Over) (c : After-deref_mut g) → LeadsToEnd false c.deref_mut.result.now.first.route c.args.place (Tree-before g c)
the_end g c =
    let first : HasEnd false (Some c.in-Some.ends) c.args.place = subst (λ o. HasEnd false o c.args.place) c.in-Some.is c.requires.first.1 in
    (kept g c).0 c.args.place (ap (λ x. x.first.place) c.deref_mut.ensures.value ∙ first)

followed : (g : Over) (c : After-deref_mut g) → IsFollowed (λ q. wanted false) (before_end c.deref_mut.result.now.first.route) (before_end c.deref_mut.result.now.first.route).depth (Some c.args.place) (Tree-before g c) (the_end g c).up (branch false leaf c.args.place (the_end g c).sister)
followed g c = end_followed false _ _ _ (the_end g c)

pub take_at_end-requires-clause-take : goal.take_at_end-requires-clause-take
take_at_end-requires-clause-take g c =
    let at = (goal.at.take_at_end-requires-clause-take g c).After-deref_mut in
    (_, _, _, can_take _ _ _ _ c.requires.whole.1 refl _ _ _ _ _ (followed g at), take_root _ _ _ _ c.requires.whole.1 refl _ _ _ _ _ (followed g at), (the_end g at).goes)

pub take_at_end-requires-clause-some : goal.take_at_end-requires-clause-some
take_at_end-requires-clause-some g c =
    let at = (goal.at.take_at_end-requires-clause-some g c).After-deref_mut in
    omega (arith, (the_end g at).depth_is)

pub returns-clause-taken : goal.returns-clause-taken
returns-clause-taken g c =
    let at = (goal.at.returns-clause-taken g c).After-deref_mut in
    let can = can_take _ _ _ _ c.requires.whole.1 refl _ _ _ _ _ (followed g at) in
    let root = take_root _ _ _ _ c.requires.whole.1 refl _ _ _ _ _ (followed g at) in
    record {
      route = before_end c.deref_mut.result.now.first.route;
      path = (the_end g at).up;
      rest = branch false leaf c.args.place (the_end g at).sister;
      followed = followed g at;
      taken = λ l r e. taken_at _ _ _ _ _ _ _ l r _ (end _ _ _ _ c.requires.whole.1 refl _ _ _ _ _ (followed g at)).2 e (c.take_at_end.ensures.tree _ _ _ can root);
    }

pub returns-clause-kept : goal.returns-clause-kept
returns-clause-kept g c v stands any =
    let at = (goal.at.returns-clause-kept g c).After-deref_mut in
    let can = can_take _ _ _ _ c.requires.whole.1 refl _ _ _ _ _ (followed g at) in
    let root = take_root _ _ _ _ c.requires.whole.1 refl _ _ _ _ _ (followed g at) in
    let last = subst (λ x. IsKept true c.deref_mut.result.now.last x) (sym (is_whole _ _ _ _ c.requires.whole.1 refl _ _ _ _ _ (followed g at))) (kept g at).1 in
    (c.take_at_end.ensures.end _ _ _ can root (the_end g at).goes v stands, c.take_at_end.ensures.other _ _ _ can root (the_end g at).goes last v stands)

pub returns-clause-touches : goal.returns-clause-touches
returns-clause-touches g c v stands =
    let at = (goal.at.returns-clause-touches g c).After-deref_mut in
    let can = can_take _ _ _ _ c.requires.whole.1 refl _ _ _ _ _ (followed g at) in
    let root = take_root _ _ _ _ c.requires.whole.1 refl _ _ _ _ _ (followed g at) in
    omega (arith, c.take_at_end.ensures.touches _ _ _ can root v stands, ap height (is_whole _ _ _ _ c.requires.whole.1 refl _ _ _ _ _ (followed g at)))

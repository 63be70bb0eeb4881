use Rattle.std.proofs.Common.{◌≡◌, ℕ, Some, true, false, length, arith, refl, sym, subst, ap, ◌∙◌}
use Rattle.bimap_base.specs.Keyed.{standing}
use Rattle.bimap_base.specs.NodesInCells.{nodes_in}
use Rattle.bimap_tree.specs.Ends.{AreKept, HasEnd, IsKept, LeadsToEnd}
use Rattle.bimap_tree.specs.IndexView.{tree_in}
use Rattle.bimap_tree.specs.Path.{top, plug, AllGo}
use Rattle.bimap_tree.specs.Route.{IsNotedRoute}
use Rattle.bimap_tree.specs.Tree.{Tree, leaf}
use Rattle.bimap_tree.proofs.Ascending.{key_is}
use Rattle.bimap_tree.proofs.AtEnds.{down_of_end, past_route, whole_low, whole_next}
use Rattle.bimap_tree.proofs.EndRoutes.{from_top}
use Rattle.bimap_tree.proofs.Whole.{can_put, put_root, len_fits, put_whole, put_length, put_adds, put_cells, put_ascends, route_depth, length_is, shown_index, height_within}
use Rattle.bimap_tree.proofs.ordered.Ordered.insert_last.Given.{Over}
use Rattle.bimap_tree.proofs.ordered.Ordered.insert_last.Goals as goal
use Rattle.bimap_tree.proofs.ordered.Ordered.insert_last.Goals.{After-deref_mut}

-- The route is not kept, and noted for this insertion.
pub note_end-requires : goal.note_end-requires
note_end-requires g c = (top, _, from_top _ _ _ _ _ c.self.invariant.0.index.tree (whole_low _ _ _ c.self.invariant.0))

pub insert_along-requires-clause-route : goal.insert_along-requires-clause-route
insert_along-requires-clause-route g c k is =
    (past_route _ _ _ _ (shown_index _ _ _ _ c.self.invariant.0 c.self.view_is) (c.note_end.ensures.leads top _ (from_top _ _ _ _ _ c.self.invariant.0.index.tree (whole_low _ _ _ c.self.invariant.0))) (c.requires.past k is)).0

pub returns-then-not-keeps_last-clause-touches : goal.returns-then-not-keeps_last-clause-touches
returns-then-not-keeps_last-clause-touches g c = omega (arith, c.note_end.ensures.touches _ c.self.invariant.0.index.tree, height_within _ _ _ _ c.self.invariant.0 c.self.view_is, c.insert_along.ensures.touches)

-- The route is kept.
abbrev Tree-now : (g : Over) → After-deref_mut g → Tree
Tree-now g c = tree_in (nodes_in c.self.inside.cells) c.self.inside.root

kept : (g : Over) (c : After-deref_mut g) → IsKept false c.deref_mut.result.now.first (Tree-now g c) × IsKept true c.deref_mut.result.now.last (Tree-now g c)
kept g c =
    let (p, (any, has)) = c.keeps_last.ensures c.if-not-keeps_last.false in
    let both : AreKept (Some c.in-Some.ends) (Tree-now g c) = subst (λ o. AreKept o (Tree-now g c)) c.in-Some.is (c.self.invariant.1 any) in
    (subst (λ x. IsKept false x.first (Tree-now g c)) (sym c.deref_mut.ensures.value) both.0, subst (λ x. IsKept true x.last (Tree-now g c)) (sym c.deref_mut.ensures.value) both.1)

the_end : (g : Over) (c : After-deref_mut g) → (p : ℕ) × LeadsToEnd true c.deref_mut.result.now.last.route p (Tree-now g c)
the_end g c =
    let (p, (any, has)) = c.keeps_last.ensures c.if-not-keeps_last.false in
    let last : HasEnd true (Some c.in-Some.ends) p = subst (λ o. HasEnd true o p) c.in-Some.is has in
    (p, (kept g c).1 p (ap (λ x. x.last.place) c.deref_mut.ensures.value ∙ last))

the_route : (g : Over) (c : After-deref_mut g) → (k : _) × (g.K.Keys.key_at c.args.keys.now c.args.place ≡ Some k) × (r : IsNotedRoute c.args.self.now (λ q. standing g.K.Keys.order (g.K.Keys.key_at c.args.keys.now q) (Some k)) c.deref_mut.result.now.last.route) × AllGo true r.path × (Tree-now g c ≡ plug r.path leaf)
the_route g c =
    let (k, is) = key_is (g.K.Keys.key_at c.args.keys.now) g.K.Keys.order _ c.requires.live in
    let (r, goes, whole) = past_route _ _ _ _ (shown_index _ _ _ _ c.self.invariant.0 c.self.view_is) (down_of_end _ _ _ _ (the_end g c).1) (c.requires.past k is) in
    (k, is, r, goes, whole)

pub put_at_end-self-inside-requires : goal.put_at_end-self-inside-requires
put_at_end-self-inside-requires g c =
    let (k, is, r, goes, whole) = the_route g (goal.at.put_at_end-self-inside-requires g c).After-deref_mut in
    (_, can_put _ _ _ _ c.self.invariant.0 c.self.view_is _ _ r _ _ c.requires.cell c.requires.unlisted c.places.ensures (omega arith), put_root _ _ _ _ c.self.invariant.0 c.self.view_is _ _ r, goes)

pub overflow_add-self : goal.overflow_add-self
overflow_add-self g c =
    let (k, is, r, goes, whole) = the_route g (goal.at.overflow_add-self g c).After-deref_mut in
    omega (arith, len_fits _ _ _ _ c.self.invariant.0 c.self.view_is _ _ r _ _ c.requires.cell c.requires.unlisted c.places.ensures (omega arith))

pub invariant_of-self : goal.invariant_of-self
invariant_of-self g c =
    let at = (goal.at.invariant_of-self g c).After-deref_mut in
    let (k, is, r, goes, whole) = the_route g at in
    let h = can_put _ _ _ _ c.self.invariant.0 c.self.view_is _ _ r _ _ c.requires.cell c.requires.unlisted c.places.ensures (omega arith) in
    let root = put_root _ _ _ _ c.self.invariant.0 c.self.view_is _ _ r in
    let w = put_whole _ _ _ _ c.self.invariant.0 c.self.view_is _ _ r _ _ c.requires.cell c.requires.unlisted c.places.ensures (omega arith) _ _ (c.put_at_end-self-inside.ensures.tree _ h root) in
    (w, λ any. (c.put_at_end-self-inside.ensures.other _ h root goes (subst (λ x. IsKept false c.deref_mut.result.now.first x) whole (kept g at).0) _ w.index.tree, c.put_at_end-self-inside.ensures.end _ h root goes _ w.index.tree))

pub returns : goal.returns
returns g c =
    let (k, is, r, goes, whole) = the_route g (goal.at.returns g c).After-deref_mut in
    let done = c.put_at_end-self-inside.ensures.tree _ (can_put _ _ _ _ c.self.invariant.0 c.self.view_is _ _ r _ _ c.requires.cell c.requires.unlisted c.places.ensures (omega arith)) (put_root _ _ _ _ c.self.invariant.0 c.self.view_is _ _ r) in
    let w = put_whole _ _ _ _ c.self.invariant.0 c.self.view_is _ _ r _ _ c.requires.cell c.requires.unlisted c.places.ensures (omega arith) _ _ done in
    record {
      len = put_length _ _ _ _ c.self.invariant.0 c.self.view_is _ _ r _ _ c.requires.cell c.requires.unlisted c.places.ensures (omega arith) _ _ done;
      adds = put_adds _ _ _ _ c.self.invariant.0 c.self.view_is _ _ r _ _ c.requires.cell c.requires.unlisted c.places.ensures (omega arith) _ _ done;
      ascends = put_ascends _ _ _ _ c.self.invariant.0 c.self.view_is _ _ r _ _ c.requires.cell c.requires.unlisted c.places.ensures (omega arith) _ _ done _ _ g.met.K.Keys.total c.requires.ascends k is refl;
      cells = put_cells _ _ _ _ c.self.invariant.0 c.self.view_is _ _ r _ _ c.requires.cell c.requires.unlisted c.places.ensures (omega arith) _ _ done;
      comparisons = c.put_at_end-self-inside.ensures.comparisons;
      touches = omega (arith, c.put_at_end-self-inside.ensures.touches _ w.index.tree, route_depth _ _ _ _ c.self.invariant.0 c.self.view_is _ _ r, whole_next _ _ _ w (length c.args.self.now.places) (omega (arith, length_is _ _ _ _ c.self.invariant.0 c.self.view_is)));
    }

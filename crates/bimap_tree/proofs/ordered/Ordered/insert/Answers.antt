use Rattle.std.proofs.Common.{◌≡◌, Some, length, arith, refl, subst}
use Rattle.bimap_base.specs.Keyed.{standing}
use Rattle.bimap_base.specs.NodesInCells.{nodes_in}
use Rattle.bimap_tree.specs.IndexView.{tree_in}
use Rattle.bimap_tree.specs.Path.{top}
use Rattle.bimap_tree.specs.Route.{IsNotedRoute, IsPast}
use Rattle.bimap_tree.proofs.Ascending.{key_is}
use Rattle.bimap_tree.proofs.AtEnds.{past_of, whole_low, whole_next}
use Rattle.bimap_tree.proofs.Whole.{can_seek_place, can_follow, place_route, height_within, can_put, put_root, len_fits, put_whole, put_length, put_adds, put_cells, put_ascends, route_depth, places_are, length_is, few_in_height}
use Rattle.bimap_tree.proofs.ordered.Ordered.insert.Given.{Over}
use Rattle.bimap_tree.proofs.ordered.Ordered.insert.Goals as goal
use Rattle.bimap_tree.proofs.ordered.Ordered.insert.Goals.{After-route_in_tree-self-inside}

pub is_past_last-requires : goal.is_past_last-requires
is_past_last-requires g c =
    let (k, is) = key_is (g.K.Keys.key_at c.args.keys.now) g.K.Keys.order _ c.requires.live in
    (_, c.self.invariant.1, (can_seek_place _ _ _ _ c.self.invariant.0 c.self.view_is _ _ g.met.K.Keys.total c.requires.ascends c.args.place k is).all_live)

pub insert_last-requires-clause-past : goal.insert_last-requires-clause-past
insert_last-requires-clause-past g c k is =
    subst (λ o. IsPast c.args.self.now (λ q. standing g.K.Keys.order (g.K.Keys.key_at c.args.keys.now q) o)) is
    (past_of c.args.self.now (λ q. standing g.K.Keys.order (g.K.Keys.key_at c.args.keys.now q) (g.K.Keys.key_at c.args.keys.now c.args.place)) (tree_in (nodes_in c.self.inside.cells) c.self.inside.root) (places_are _ _ _ _ c.self.invariant.0 c.self.view_is)
    (c.is_past_last.ensures.past c.if-is_past_last.true _ c.self.invariant.1 (can_seek_place _ _ _ _ c.self.invariant.0 c.self.view_is _ _ g.met.K.Keys.total c.requires.ascends c.args.place k is).in_order))

pub returns-then-is_past_last-clause-comparisons : goal.returns-then-is_past_last-clause-comparisons
returns-then-is_past_last-clause-comparisons g c = omega (arith, c.insert_last.ensures.comparisons, c.is_past_last.ensures.few _ c.self.invariant.1 c.self.invariant.0.index.balanced, few_in_height _ _ _ _ c.self.invariant.0 c.self.view_is)

pub route_in_tree-self-inside-requires : goal.route_in_tree-self-inside-requires
route_in_tree-self-inside-requires g c =
    let (k, is) = key_is (g.K.Keys.key_at c.args.keys.now) g.K.Keys.order _ c.requires.live in
    (top, tree_in (nodes_in c.self.inside.cells) c.self.inside.root, can_follow _ _ _ _ c.self.invariant.0 c.self.view_is _ _ _ (can_seek_place _ _ _ _ c.self.invariant.0 c.self.view_is _ _ g.met.K.Keys.total c.requires.ascends _ k is))

-- The route that the search leaves.
the_route : (g : Over) (c : After-route_in_tree-self-inside g) → (k : _) × (g.K.Keys.key_at c.args.keys.now c.args.place ≡ Some k) × IsNotedRoute c.args.self.now (λ q. standing g.K.Keys.order (g.K.Keys.key_at c.args.keys.now q) (Some k)) c.route_in_tree-self-inside.new.route
the_route g c =
    let (k, is) = key_is (g.K.Keys.key_at c.args.keys.now) g.K.Keys.order _ c.requires.live in
    let f = can_follow _ _ _ _ c.self.invariant.0 c.self.view_is _ _ c.scratch-noted.result.now (can_seek_place _ _ _ _ c.self.invariant.0 c.self.view_is _ _ g.met.K.Keys.total c.requires.ascends c.args.place k is) in
    (k, is, place_route _ _ _ _ c.self.invariant.0 c.self.view_is (g.K.Keys.key_at c.args.keys.now) g.K.Keys.order c.args.place k is _ (c.route_in_tree-self-inside.ensures.found _ _ f) (λ p listed same. c.requires.unequal p k listed is same) _ (c.route_in_tree-self-inside.ensures.follows _ _ f))

pub put_at-self-inside-requires : goal.put_at-self-inside-requires
put_at-self-inside-requires g c =
    let (k, is, r) = the_route g (goal.at.put_at-self-inside-requires g c).After-route_in_tree-self-inside in
    (_, can_put _ _ _ _ c.self.invariant.0 c.self.view_is _ _ r _ _ c.requires.cell c.requires.unlisted c.places.ensures (omega arith), put_root _ _ _ _ c.self.invariant.0 c.self.view_is _ _ r)

pub overflow_add-self : goal.overflow_add-self
overflow_add-self g c =
    let (k, is, r) = the_route g (goal.at.overflow_add-self g c).After-route_in_tree-self-inside in
    omega (arith, len_fits _ _ _ _ c.self.invariant.0 c.self.view_is _ _ r _ _ c.requires.cell c.requires.unlisted c.places.ensures (omega arith))

pub renew_last-requires : goal.renew_last-requires
renew_last-requires g c =
    let (k, is, r) = the_route g (goal.at.renew_last-requires g c).After-route_in_tree-self-inside in
    let h = can_put _ _ _ _ c.self.invariant.0 c.self.view_is _ _ r _ _ c.requires.cell c.requires.unlisted c.places.ensures (omega arith) in
    let w = put_whole _ _ _ _ c.self.invariant.0 c.self.view_is _ _ r _ _ c.requires.cell c.requires.unlisted c.places.ensures (omega arith) _ _ (c.put_at-self-inside.ensures.tree _ h (put_root _ _ _ _ c.self.invariant.0 c.self.view_is _ _ r)) in
    (_, w.index.tree, whole_low _ _ _ w)

pub invariant_of-self : goal.invariant_of-self
invariant_of-self g c =
    let (k, is, r) = the_route g (goal.at.invariant_of-self g c).After-route_in_tree-self-inside in
    let h = can_put _ _ _ _ c.self.invariant.0 c.self.view_is _ _ r _ _ c.requires.cell c.requires.unlisted c.places.ensures (omega arith) in
    let w = put_whole _ _ _ _ c.self.invariant.0 c.self.view_is _ _ r _ _ c.requires.cell c.requires.unlisted c.places.ensures (omega arith) _ _ (c.put_at-self-inside.ensures.tree _ h (put_root _ _ _ _ c.self.invariant.0 c.self.view_is _ _ r)) in
    (w, c.renew_last.ensures.kept _ w.index.tree (whole_low _ _ _ w))

pub returns : goal.returns
returns g c =
    let (k, is, r) = the_route g (goal.at.returns g c).After-route_in_tree-self-inside in
    let done = c.put_at-self-inside.ensures.tree _ (can_put _ _ _ _ c.self.invariant.0 c.self.view_is _ _ r _ _ c.requires.cell c.requires.unlisted c.places.ensures (omega arith)) (put_root _ _ _ _ c.self.invariant.0 c.self.view_is _ _ r) in
    let w = put_whole _ _ _ _ c.self.invariant.0 c.self.view_is _ _ r _ _ c.requires.cell c.requires.unlisted c.places.ensures (omega arith) _ _ done in
    record {
      len = put_length _ _ _ _ c.self.invariant.0 c.self.view_is _ _ r _ _ c.requires.cell c.requires.unlisted c.places.ensures (omega arith) _ _ done;
      adds = put_adds _ _ _ _ c.self.invariant.0 c.self.view_is _ _ r _ _ c.requires.cell c.requires.unlisted c.places.ensures (omega arith) _ _ done;
      ascends = put_ascends _ _ _ _ c.self.invariant.0 c.self.view_is _ _ r _ _ c.requires.cell c.requires.unlisted c.places.ensures (omega arith) _ _ done _ _ g.met.K.Keys.total c.requires.ascends k is refl;
      cells = put_cells _ _ _ _ c.self.invariant.0 c.self.view_is _ _ r _ _ c.requires.cell c.requires.unlisted c.places.ensures (omega arith) _ _ done;
      comparisons = omega (arith, c.renew_last.ensures.comparisons, c.put_at-self-inside.ensures.comparisons, c.route_in_tree-self-inside.ensures.comparisons _ c.self.invariant.0.index.tree, c.is_past_last.ensures.few _ c.self.invariant.1 c.self.invariant.0.index.balanced, few_in_height _ _ _ _ c.self.invariant.0 c.self.view_is);
      touches = omega (arith, c.is_past_last.ensures.touches, c.renew_last.ensures.touches _ w.index.tree, c.route_in_tree-self-inside.ensures.touches _ c.self.invariant.0.index.tree, c.put_at-self-inside.ensures.touches, height_within _ _ _ _ c.self.invariant.0 c.self.view_is, route_depth _ _ _ _ c.self.invariant.0 c.self.view_is _ _ r, whole_next _ _ _ w (length c.args.self.now.places) (omega (arith, length_is _ _ _ _ c.self.invariant.0 c.self.view_is)));
    }

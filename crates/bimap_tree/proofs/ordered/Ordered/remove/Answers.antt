use Rattle.std.proofs.Common.{Some, length, arith, subst}
use Rattle.bimap_base.specs.NodesInCells.{nodes_in}
use Rattle.bimap_base.specs.Keyed.{standing}
use Rattle.bimap_tree.specs.IndexView.{tree_in}
use Rattle.bimap_tree.specs.Path.{Path}
use Rattle.bimap_tree.specs.Route.{IsFollowed}
use Rattle.bimap_tree.specs.Tree.{Tree}
use Rattle.bimap_tree.proofs.Ascending.{key_listed}
use Rattle.bimap_tree.proofs.AtEnds.{whole_low, whole_within}
use Rattle.bimap_tree.proofs.Whole.{can_seek_place, can_follow, place_found, height_within, length_is, end, can_take, take_root, take_height, take_whole, take_length, take_drops, take_cells, take_ascends}
use Rattle.bimap_tree.proofs.ordered.Ordered.remove.Given.{Over}
use Rattle.bimap_tree.proofs.ordered.Ordered.remove.Goals as goal
use Rattle.bimap_tree.proofs.ordered.Ordered.remove.Goals.{After-route_ahead-self-inside}

pub note_first-requires : goal.note_first-requires
note_first-requires g c = (_, c.self.invariant.0.index.tree, whole_low _ _ _ c.self.invariant.0)

-- ---- The place is the first one, to which the route is kept.
pub take_first-self-inside-requires-clause-first : goal.take_first-self-inside-requires-clause-first
take_first-self-inside-requires-clause-first g c = c.keeps_first.ensures c.if-keeps_first.true

pub take_first-self-inside-requires-clause-whole : goal.take_first-self-inside-requires-clause-whole
take_first-self-inside-requires-clause-whole g c = (_, c.self.invariant.0)

pub take_first-self-inside-requires-clause-kept : goal.take_first-self-inside-requires-clause-kept
take_first-self-inside-requires-clause-kept g c = c.note_first.ensures.kept _ c.self.invariant.0.index.tree (whole_low _ _ _ c.self.invariant.0) c.self.invariant.1

pub overflow_sub-self : goal.overflow_sub-self
overflow_sub-self g c =
    let t = c.take_first-self-inside.ensures.taken in
    let done = t.taken _ _ (end _ _ _ _ c.self.invariant.0 c.self.view_is _ _ _ _ _ t.followed).2 in
    omega (arith, take_length _ _ _ _ c.self.invariant.0 c.self.view_is _ _ _ _ _ t.followed _ _ done, length_is _ _ _ _ c.self.invariant.0 c.self.view_is)

pub invariant_of-self : goal.invariant_of-self
invariant_of-self g c =
    let t = c.take_first-self-inside.ensures.taken in
    let w = take_whole _ _ _ _ c.self.invariant.0 c.self.view_is _ _ _ _ _ t.followed _ _ (t.taken _ _ (end _ _ _ _ c.self.invariant.0 c.self.view_is _ _ _ _ _ t.followed).2) in
    (w, c.take_first-self-inside.ensures.kept _ w.index.tree)

pub returns-then-keeps_first : goal.returns-then-keeps_first
returns-then-keeps_first g c =
    let t = c.take_first-self-inside.ensures.taken in
    let done = t.taken _ _ (end _ _ _ _ c.self.invariant.0 c.self.view_is _ _ _ _ _ t.followed).2 in
    let w = take_whole _ _ _ _ c.self.invariant.0 c.self.view_is _ _ _ _ _ t.followed _ _ done in
    record {
      len = take_length _ _ _ _ c.self.invariant.0 c.self.view_is _ _ _ _ _ t.followed _ _ done;
      drops = take_drops _ _ _ _ c.self.invariant.0 c.self.view_is _ _ _ _ _ t.followed _ _ done;
      ascends = take_ascends _ _ _ _ c.self.invariant.0 c.self.view_is _ _ _ _ _ t.followed _ _ done _ _ c.requires.ascends;
      cells = take_cells _ _ _ _ c.self.invariant.0 c.self.view_is _ _ _ _ _ t.followed _ _ done;
      comparisons = omega (arith, c.note_first.ensures.comparisons, c.take_first-self-inside.ensures.comparisons);
      touches = omega (arith, c.note_first.ensures.touches _ c.self.invariant.0.index.tree, height_within _ _ _ _ c.self.invariant.0 c.self.view_is, c.take_first-self-inside.ensures.touches _ w.index.tree, whole_within _ _ _ w (length c.args.self.now.places) (omega (arith, length_is _ _ _ _ c.self.invariant.0 c.self.view_is)));
    }

-- ---- The place is searched.
pub route_ahead-self-inside-requires : goal.route_ahead-self-inside-requires
route_ahead-self-inside-requires g c =
    let (k, is) = key_listed (g.K.Keys.key_at c.args.keys.now) g.K.Keys.order _ c.requires.ascends _ c.requires.listed in
    (tree_in (nodes_in c.self.inside.cells) c.self.inside.root, can_follow _ _ _ _ c.self.invariant.0 c.self.view_is _ _ _ (can_seek_place _ _ _ _ c.self.invariant.0 c.self.view_is _ _ g.met.K.Keys.total c.requires.ascends _ k is))

-- The route of the search to the place.
the_notes : (g : Over) (c : After-route_ahead-self-inside g) → (low : Path) × (s : Tree) × IsFollowed (λ q. standing g.K.Keys.order (g.K.Keys.key_at c.args.keys.now q) (g.K.Keys.key_at c.args.keys.now c.args.place)) c.route_ahead-self-inside.new.route c.route_ahead-self-inside.new.route.depth (Some c.args.place) (tree_in (nodes_in c.self.inside.cells) c.self.inside.root) low s
the_notes g c =
    let (k, is) = key_listed (g.K.Keys.key_at c.args.keys.now) g.K.Keys.order _ c.requires.ascends _ c.requires.listed in
    let f = can_follow _ _ _ _ c.self.invariant.0 c.self.view_is _ _ c.scratch-noted.result.now (can_seek_place _ _ _ _ c.self.invariant.0 c.self.view_is _ _ g.met.K.Keys.total c.requires.ascends c.args.place k is) in
    let found = place_found _ _ _ _ c.self.invariant.0 c.self.view_is _ _ _ k is _ (c.route_ahead-self-inside.ensures.found _ f) g.met.K.Keys.total c.requires.ascends c.requires.listed in
    subst (λ o. (low : Path) × (s : Tree) × IsFollowed (λ q. standing g.K.Keys.order (g.K.Keys.key_at c.args.keys.now q) (g.K.Keys.key_at c.args.keys.now c.args.place)) c.route_ahead-self-inside.new.route c.route_ahead-self-inside.new.route.depth o (tree_in (nodes_in c.self.inside.cells) c.self.inside.root) low s) found (c.route_ahead-self-inside.ensures.follows _ f)

pub take_at-self-inside-requires : goal.take_at-self-inside-requires
take_at-self-inside-requires g c =
    let (low, s, f) = the_notes g (goal.at.take_at-self-inside-requires g c).After-route_ahead-self-inside in
    (low, _, _, can_take _ _ _ _ c.self.invariant.0 c.self.view_is _ _ _ low s f, take_root _ _ _ _ c.self.invariant.0 c.self.view_is _ _ _ low s f)

pub invariant_of-self-2 : goal.invariant_of-self-2
invariant_of-self-2 g c =
    let (low, s, f) = the_notes g (goal.at.invariant_of-self-2 g c).After-route_ahead-self-inside in
    (take_whole _ _ _ _ c.self.invariant.0 c.self.view_is _ _ _ low s f _ _ (c.take_at-self-inside.ensures.tree low _ _ (can_take _ _ _ _ c.self.invariant.0 c.self.view_is _ _ _ low s f) (take_root _ _ _ _ c.self.invariant.0 c.self.view_is _ _ _ low s f)), c.let_go.ensures _)

pub returns : goal.returns
returns g c =
    let (low, s, f) = the_notes g (goal.at.returns g c).After-route_ahead-self-inside in
    let can = can_take _ _ _ _ c.self.invariant.0 c.self.view_is _ _ _ low s f in
    let at_root = take_root _ _ _ _ c.self.invariant.0 c.self.view_is _ _ _ low s f in
    let done = c.take_at-self-inside.ensures.tree low _ _ can at_root in
    record {
      len = take_length _ _ _ _ c.self.invariant.0 c.self.view_is _ _ _ low s f _ _ done;
      drops = take_drops _ _ _ _ c.self.invariant.0 c.self.view_is _ _ _ low s f _ _ done;
      ascends = take_ascends _ _ _ _ c.self.invariant.0 c.self.view_is _ _ _ low s f _ _ done _ _ c.requires.ascends;
      cells = take_cells _ _ _ _ c.self.invariant.0 c.self.view_is _ _ _ low s f _ _ done;
      comparisons = omega (arith, c.note_first.ensures.comparisons, c.route_ahead-self-inside.ensures.comparisons _ c.self.invariant.0.index.tree, c.take_at-self-inside.ensures.comparisons, height_within _ _ _ _ c.self.invariant.0 c.self.view_is);
      touches = omega (arith, c.note_first.ensures.touches _ c.self.invariant.0.index.tree, c.route_ahead-self-inside.ensures.touches _ c.self.invariant.0.index.tree, height_within _ _ _ _ c.self.invariant.0 c.self.view_is, c.take_at-self-inside.ensures.touches low _ _ can at_root, take_height _ _ _ _ c.self.invariant.0 c.self.view_is _ _ _ low s f);
    }

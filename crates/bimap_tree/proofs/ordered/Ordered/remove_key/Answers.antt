use Rattle.std.proofs.Common.{◌≡◌, Some, None, length, arith, ap, subst, sym, ◌∙◌}
use Rattle.std.specs.Prelude.{IfSome}
use Rattle.std.specs.declared.cmp.Ordering.TheVariants.{Equal}
use Rattle.bimap_base.specs.Keyed.{standing}
use Rattle.bimap_base.specs.NodesInCells.{nodes_in}
use Rattle.bimap_tree.specs.Ends.{HasFirst, KeepsEnds}
use Rattle.bimap_tree.specs.IndexView.{tree_in}
use Rattle.bimap_tree.specs.Order.{first_equal}
use Rattle.bimap_tree.specs.Path.{Path}
use Rattle.bimap_tree.specs.Route.{IsFollowed}
use Rattle.bimap_tree.specs.Tree.{Tree}
use Rattle.bimap_tree.proofs.AtEnds.{first_listed, whole_low, whole_within}
use Rattle.bimap_tree.proofs.Found.{found_in, none_told}
use Rattle.bimap_tree.proofs.Whole.{can_seek, can_follow, places_are, height_within, few_in_height, length_is, end, can_take, take_root, take_height, take_whole, take_length, take_drops, take_cells, take_ascends}
use Rattle.bimap_tree.proofs.ordered.Ordered.remove_key.Given.{Over}
use Rattle.bimap_tree.proofs.ordered.Ordered.remove_key.Goals as goal
use Rattle.bimap_tree.proofs.ordered.Ordered.remove_key.Goals.{After-note_first, After-route_ahead, In-Some, In-Some-route_ahead}

pub note_first-requires : goal.note_first-requires
note_first-requires g c = (_, c.self.invariant.0.index.tree, whole_low _ _ _ c.self.invariant.0)

pub found_first-requires : goal.found_first-requires
found_first-requires g c =
    (_, c.note_first.ensures.kept _ c.self.invariant.0.index.tree (whole_low _ _ _ c.self.invariant.0) c.self.invariant.1, (can_seek _ _ _ _ c.self.invariant.0 c.self.view_is _ _ _ g.met.Q.Sought.follows c.requires c.args.query).all_live)

pub route_ahead-requires : goal.route_ahead-requires
route_ahead-requires g c =
    (tree_in (nodes_in c.self.inside.cells) c.self.inside.root, can_follow _ _ _ _ c.self.invariant.0 c.self.view_is _ _ _ (can_seek _ _ _ _ c.self.invariant.0 c.self.view_is _ _ _ g.met.Q.Sought.follows c.requires _))

-- The search returns the first equal place.
first : (g : Over) (c : After-route_ahead g) → c.route_ahead.result ≡ first_equal (λ q. standing g.Q.Sought.order (g.K.Keys.key_at c.args.keys.now q) (Some c.args.query)) c.args.self.now.places
first g c =
    let f = can_follow _ _ _ _ c.self.invariant.0 c.self.view_is _ _ c.scratch-noted.result.now (can_seek _ _ _ _ c.self.invariant.0 c.self.view_is _ _ _ g.met.Q.Sought.follows c.requires c.args.query) in
    c.route_ahead.ensures.found _ f ∙ ap (λ x. first_equal (λ q. standing g.Q.Sought.order (g.K.Keys.key_at c.args.keys.now q) (Some c.args.query)) x) (places_are _ _ _ _ c.self.invariant.0 c.self.view_is)

-- ---- The first place has this key, and the route to it is kept.
-- The routes are kept still.
both_kept : (g : Over) (c : After-note_first g) → KeepsEnds c.note_first.new.kept (tree_in (nodes_in c.self.inside.cells) c.self.inside.root)
both_kept g c = c.note_first.ensures.kept _ c.self.invariant.0.index.tree (whole_low _ _ _ c.self.invariant.0) c.self.invariant.1

has_first : (g : Over) (c : In-Some g) → HasFirst c.note_first.new.kept c.in-Some.found
has_first g c = subst (λ o. IfSome o (λ p. HasFirst c.note_first.new.kept p)) c.in-Some.is c.found_first.ensures.first

pub take_first-self-inside-requires-clause-first : goal.take_first-self-inside-requires-clause-first
take_first-self-inside-requires-clause-first g c = has_first g (goal.at.take_first-self-inside-requires-clause-first g c).In-Some

pub take_first-self-inside-requires-clause-whole : goal.take_first-self-inside-requires-clause-whole
take_first-self-inside-requires-clause-whole g c = (_, c.self.invariant.0)

pub take_first-self-inside-requires-clause-kept : goal.take_first-self-inside-requires-clause-kept
take_first-self-inside-requires-clause-kept g c = both_kept g (goal.at.take_first-self-inside-requires-clause-kept g c).After-note_first

pub overflow_sub-self : goal.overflow_sub-self
overflow_sub-self g c =
    let t = c.take_first-self-inside.ensures.taken in
    let done = t.taken _ _ (end _ _ _ _ c.self.invariant.0 c.self.view_is _ _ _ _ _ t.followed).2 in
    omega (arith, take_length _ _ _ _ c.self.invariant.0 c.self.view_is _ _ _ _ _ t.followed _ _ done, length_is _ _ _ _ c.self.invariant.0 c.self.view_is)

pub invariant_of-self : goal.invariant_of-self
invariant_of-self g c =
    let t = c.take_first-self-inside.ensures.taken in
    let w = take_whole _ _ _ _ c.self.invariant.0 c.self.view_is _ _ _ _ _ t.followed _ _ (t.taken _ _ (end _ _ _ _ c.self.invariant.0 c.self.view_is _ _ _ _ _ t.followed).2) in
    (w, c.take_first-self-inside.ensures.kept _ w.index.tree)

pub returns-in-Some : goal.returns-in-Some
returns-in-Some g c =
    let at = (goal.at.returns-in-Some g c).In-Some in
    let kept = both_kept g (goal.at.returns-in-Some g c).After-note_first in
    let t = c.take_first-self-inside.ensures.taken in
    let done = t.taken _ _ (end _ _ _ _ c.self.invariant.0 c.self.view_is _ _ _ _ _ t.followed).2 in
    let w = take_whole _ _ _ _ c.self.invariant.0 c.self.view_is _ _ _ _ _ t.followed _ _ done in
    let equal : IfSome (Some c.in-Some.found) (λ p. standing g.Q.Sought.order (g.K.Keys.key_at c.args.keys.now p) (Some c.args.query) ≡ Equal) = subst (λ o. IfSome o (λ p. standing g.Q.Sought.order (g.K.Keys.key_at c.args.keys.now p) (Some c.args.query) ≡ Equal)) c.in-Some.is c.found_first.ensures.equal in
    record {
      found = (first_listed c.args.self.now _ _ _ kept (has_first g at) (places_are _ _ _ _ c.self.invariant.0 c.self.view_is), equal);
      none = tt;
      unchanged = tt;
      len = take_length _ _ _ _ c.self.invariant.0 c.self.view_is _ _ _ _ _ t.followed _ _ done;
      drops = take_drops _ _ _ _ c.self.invariant.0 c.self.view_is _ _ _ _ _ t.followed _ _ done;
      ascends = take_ascends _ _ _ _ c.self.invariant.0 c.self.view_is _ _ _ _ _ t.followed _ _ done _ _ c.requires;
      cells = take_cells _ _ _ _ c.self.invariant.0 c.self.view_is _ _ _ _ _ t.followed _ _ done;
      comparisons = omega (arith, c.note_first.ensures.comparisons, c.found_first.ensures.few _ kept c.self.invariant.0.index.balanced, few_in_height _ _ _ _ c.self.invariant.0 c.self.view_is, c.take_first-self-inside.ensures.comparisons);
      touches = omega (arith, c.note_first.ensures.touches _ c.self.invariant.0.index.tree, c.found_first.ensures.touches, height_within _ _ _ _ c.self.invariant.0 c.self.view_is, c.take_first-self-inside.ensures.touches _ w.index.tree, whole_within _ _ _ w (length c.args.self.now.places) (omega (arith, length_is _ _ _ _ c.self.invariant.0 c.self.view_is)));
    }

-- ---- The search finds no place.
pub returns-in_default-route_ahead-clause-none : goal.returns-in_default-route_ahead-clause-none
returns-in_default-route_ahead-clause-none g c =
    none_told (λ q. standing g.Q.Sought.order (g.K.Keys.key_at c.args.keys.now q) (Some c.args.query)) _ _ None c.in_default-route_ahead.is (first g (goal.at.returns-in_default-route_ahead-clause-none g c).After-route_ahead)

pub returns-in_default-route_ahead-clause-comparisons : goal.returns-in_default-route_ahead-clause-comparisons
returns-in_default-route_ahead-clause-comparisons g c =
    let kept = both_kept g (goal.at.returns-in_default-route_ahead-clause-comparisons g c).After-note_first in
    omega (arith, c.note_first.ensures.comparisons, c.found_first.ensures.few _ kept c.self.invariant.0.index.balanced, few_in_height _ _ _ _ c.self.invariant.0 c.self.view_is, c.route_ahead.ensures.comparisons _ c.self.invariant.0.index.tree)

pub returns-in_default-route_ahead-clause-touches : goal.returns-in_default-route_ahead-clause-touches
returns-in_default-route_ahead-clause-touches g c = omega (arith, c.note_first.ensures.touches _ c.self.invariant.0.index.tree, c.found_first.ensures.touches, c.route_ahead.ensures.touches _ c.self.invariant.0.index.tree, height_within _ _ _ _ c.self.invariant.0 c.self.view_is)

-- ---- The search finds a place.
the_notes : (g : Over) (c : In-Some-route_ahead g) → (low : Path) × (s : Tree) × IsFollowed (λ q. standing g.Q.Sought.order (g.K.Keys.key_at c.args.keys.now q) (Some c.args.query)) c.route_ahead.new.route c.route_ahead.new.route.depth (Some c.in-Some-route_ahead.found) (tree_in (nodes_in c.self.inside.cells) c.self.inside.root) low s
the_notes g c =
    let f = can_follow _ _ _ _ c.self.invariant.0 c.self.view_is _ _ c.scratch-noted.result.now (can_seek _ _ _ _ c.self.invariant.0 c.self.view_is _ _ _ g.met.Q.Sought.follows c.requires c.args.query) in
    subst (λ o. (low : Path) × (s : Tree) × IsFollowed (λ q. standing g.Q.Sought.order (g.K.Keys.key_at c.args.keys.now q) (Some c.args.query)) c.route_ahead.new.route c.route_ahead.new.route.depth o (tree_in (nodes_in c.self.inside.cells) c.self.inside.root) low s) c.in-Some-route_ahead.is (c.route_ahead.ensures.follows _ f)

pub take_at-self-inside-requires : goal.take_at-self-inside-requires
take_at-self-inside-requires g c =
    let (low, s, f) = the_notes g (goal.at.take_at-self-inside-requires g c).In-Some-route_ahead in
    (low, _, _, can_take _ _ _ _ c.self.invariant.0 c.self.view_is _ _ _ low s f, take_root _ _ _ _ c.self.invariant.0 c.self.view_is _ _ _ low s f)

pub invariant_of-self-2 : goal.invariant_of-self-2
invariant_of-self-2 g c =
    let (low, s, f) = the_notes g (goal.at.invariant_of-self-2 g c).In-Some-route_ahead in
    (take_whole _ _ _ _ c.self.invariant.0 c.self.view_is _ _ _ low s f _ _ (c.take_at-self-inside.ensures.tree low _ _ (can_take _ _ _ _ c.self.invariant.0 c.self.view_is _ _ _ low s f) (take_root _ _ _ _ c.self.invariant.0 c.self.view_is _ _ _ low s f)), c.let_go-2.ensures _)

pub returns : goal.returns
returns g c =
    let (low, s, f) = the_notes g (goal.at.returns g c).In-Some-route_ahead in
    let can = can_take _ _ _ _ c.self.invariant.0 c.self.view_is _ _ _ low s f in
    let at_root = take_root _ _ _ _ c.self.invariant.0 c.self.view_is _ _ _ low s f in
    let done = c.take_at-self-inside.ensures.tree low _ _ can at_root in
    record {
      found = found_in (λ q. standing g.Q.Sought.order (g.K.Keys.key_at c.args.keys.now q) (Some c.args.query)) _ (Some c.in-Some-route_ahead.found) (sym c.in-Some-route_ahead.is ∙ first g (goal.at.returns g c).After-route_ahead);
      none = tt;
      unchanged = tt;
      len = take_length _ _ _ _ c.self.invariant.0 c.self.view_is _ _ _ low s f _ _ done;
      drops = take_drops _ _ _ _ c.self.invariant.0 c.self.view_is _ _ _ low s f _ _ done;
      ascends = take_ascends _ _ _ _ c.self.invariant.0 c.self.view_is _ _ _ low s f _ _ done _ _ c.requires;
      cells = take_cells _ _ _ _ c.self.invariant.0 c.self.view_is _ _ _ low s f _ _ done;
      comparisons = omega (arith, c.note_first.ensures.comparisons, c.found_first.ensures.few _ (c.note_first.ensures.kept _ c.self.invariant.0.index.tree (whole_low _ _ _ c.self.invariant.0) c.self.invariant.1) c.self.invariant.0.index.balanced, few_in_height _ _ _ _ c.self.invariant.0 c.self.view_is, c.route_ahead.ensures.comparisons _ c.self.invariant.0.index.tree, c.take_at-self-inside.ensures.comparisons);
      touches = omega (arith, c.note_first.ensures.touches _ c.self.invariant.0.index.tree, c.found_first.ensures.touches, c.route_ahead.ensures.touches _ c.self.invariant.0.index.tree, height_within _ _ _ _ c.self.invariant.0 c.self.view_is, c.take_at-self-inside.ensures.touches low _ _ can at_root, take_height _ _ _ _ c.self.invariant.0 c.self.view_is _ _ _ low s f);
    }

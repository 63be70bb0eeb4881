use Rattle.std.proofs.Common.{arith, length, refl}
use Rattle.bimap_tree.proofs.Ascending.{key_is}
use Rattle.bimap_tree.proofs.AtEnds.{whole_low, whole_next}
use Rattle.bimap_tree.proofs.Whole.{can_put, put_root, len_fits, put_whole, put_length, put_adds, put_cells, put_ascends, route_depth, length_is}
use Rattle.bimap_tree.proofs.ordered.Ordered.insert_along.Goals as goal

pub put_at-self-inside-requires : goal.put_at-self-inside-requires
put_at-self-inside-requires g c =
    let (k, is) = key_is (g.K.Keys.key_at c.args.keys.now) g.K.Keys.order _ c.requires.live in
    (_, can_put _ _ _ _ c.self.invariant.0 c.self.view_is _ _ (c.requires.route k is) _ _ c.requires.cell c.requires.unlisted c.places.ensures (omega arith), put_root _ _ _ _ c.self.invariant.0 c.self.view_is _ _ (c.requires.route k is))

pub overflow_add-self : goal.overflow_add-self
overflow_add-self g c =
    let (k, is) = key_is (g.K.Keys.key_at c.args.keys.now) g.K.Keys.order _ c.requires.live in
    omega (arith, len_fits _ _ _ _ c.self.invariant.0 c.self.view_is _ _ (c.requires.route k is) _ _ c.requires.cell c.requires.unlisted c.places.ensures (omega arith))

pub renew_last-requires : goal.renew_last-requires
renew_last-requires g c =
    let (k, is) = key_is (g.K.Keys.key_at c.args.keys.now) g.K.Keys.order _ c.requires.live in
    let r = c.requires.route k is in
    let h = can_put _ _ _ _ c.self.invariant.0 c.self.view_is _ _ r _ _ c.requires.cell c.requires.unlisted c.places.ensures (omega arith) in
    let w = put_whole _ _ _ _ c.self.invariant.0 c.self.view_is _ _ r _ _ c.requires.cell c.requires.unlisted c.places.ensures (omega arith) _ _ (c.put_at-self-inside.ensures.tree _ h (put_root _ _ _ _ c.self.invariant.0 c.self.view_is _ _ r)) in
    (_, w.index.tree, whole_low _ _ _ w)

pub invariant_of-self : goal.invariant_of-self
invariant_of-self g c =
    let (k, is) = key_is (g.K.Keys.key_at c.args.keys.now) g.K.Keys.order _ c.requires.live in
    let r = c.requires.route k is in
    let h = can_put _ _ _ _ c.self.invariant.0 c.self.view_is _ _ r _ _ c.requires.cell c.requires.unlisted c.places.ensures (omega arith) in
    let w = put_whole _ _ _ _ c.self.invariant.0 c.self.view_is _ _ r _ _ c.requires.cell c.requires.unlisted c.places.ensures (omega arith) _ _ (c.put_at-self-inside.ensures.tree _ h (put_root _ _ _ _ c.self.invariant.0 c.self.view_is _ _ r)) in
    (w, c.renew_last.ensures.kept _ w.index.tree (whole_low _ _ _ w))

pub returns : goal.returns
returns g c =
    let (k, is) = key_is (g.K.Keys.key_at c.args.keys.now) g.K.Keys.order _ c.requires.live in
    let r = c.requires.route k is in
    let done = c.put_at-self-inside.ensures.tree _ (can_put _ _ _ _ c.self.invariant.0 c.self.view_is _ _ r _ _ c.requires.cell c.requires.unlisted c.places.ensures (omega arith)) (put_root _ _ _ _ c.self.invariant.0 c.self.view_is _ _ r) in
    let w = put_whole _ _ _ _ c.self.invariant.0 c.self.view_is _ _ r _ _ c.requires.cell c.requires.unlisted c.places.ensures (omega arith) _ _ done in
    record {
      len = put_length _ _ _ _ c.self.invariant.0 c.self.view_is _ _ r _ _ c.requires.cell c.requires.unlisted c.places.ensures (omega arith) _ _ done;
      adds = put_adds _ _ _ _ c.self.invariant.0 c.self.view_is _ _ r _ _ c.requires.cell c.requires.unlisted c.places.ensures (omega arith) _ _ done;
      ascends = put_ascends _ _ _ _ c.self.invariant.0 c.self.view_is _ _ r _ _ c.requires.cell c.requires.unlisted c.places.ensures (omega arith) _ _ done _ _ g.met.K.Keys.total c.requires.ascends k is refl;
      cells = put_cells _ _ _ _ c.self.invariant.0 c.self.view_is _ _ r _ _ c.requires.cell c.requires.unlisted c.places.ensures (omega arith) _ _ done;
      comparisons = omega (arith, c.put_at-self-inside.ensures.comparisons, c.renew_last.ensures.comparisons);
      touches = omega (arith, c.put_at-self-inside.ensures.touches, c.renew_last.ensures.touches _ w.index.tree, route_depth _ _ _ _ c.self.invariant.0 c.self.view_is _ _ r, whole_next _ _ _ w (length c.args.self.now.places) (omega (arith, length_is _ _ _ _ c.self.invariant.0 c.self.view_is)));
    }

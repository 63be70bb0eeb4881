use Rattle.std.proofs.Common.{length, arith, refl, subst, ◌∙◌, ◌≡◌, ◌+◌, ◌*◌}
use Rattle.bimap_base.specs.Digits.{most_height}
use Rattle.bimap_index.specs.OrderLaws.{order_walks_alike}
use Rattle.bimap_index.proofs.Ascending.{effort_least}
use Rattle.bimap_index.proofs.Adopting.{IsListedUpTo, none_yet, one_more, costs, compacted_live, compacted_unequal, all_listed}
use Rattle.bimap_index.proofs.ordered.OrderedCompactedIndex.adopt.Goals as goal

pub loop-place-init : goal.loop-place-init
loop-place-init g c = record {
  listed = none_yet g.K.Ord.cmp (g.S.Side.key_at c.args.side) c.args.compacted.places c.requires.from.2.1;
  within = omega arith;
  cells = refl;
  compared = omega arith;
  touched = omega arith;
}

pub insert-requires-clause-ascends : goal.insert-requires-clause-ascends
insert-requires-clause-ascends g c = rw c.new-keys.ensures c.loop-place.invariant.listed.up

pub insert-requires-clause-live : goal.insert-requires-clause-live
insert-requires-clause-live g c =
    rw c.new-keys.ensures (compacted_live g.K.Ord.cmp g.K.PartialEq.eq g.met.K.Ord.total g.met.K.Ord.matches_eq c.args.self.now.places c.requires.from.1 (g.S.Side.key_at c.args.side) c.requires.from.0 c.requires.from.3 c.requires.from.4 c.loop-place.place (omega (arith, c.loop-place-test.true, c.len-len.ensures.len)))

pub insert-requires-clause-cell : goal.insert-requires-clause-cell
insert-requires-clause-cell g c = omega (arith, c.loop-place-test.true, c.len-len.ensures.len, c.loop-place.invariant.cells, c.requires.from.2.0, c.requires.from.2.2)

pub insert-requires-clause-unlisted : goal.insert-requires-clause-unlisted
insert-requires-clause-unlisted g c there = absurd (omega (arith, (c.loop-place.invariant.listed.first c.loop-place.place).0 there))

pub insert-requires-clause-unequal : goal.insert-requires-clause-unequal
insert-requires-clause-unequal g c = rw c.new-keys.ensures (λ p k there is.
    compacted_unequal g.K.Ord.cmp g.K.PartialEq.eq g.met.K.Ord.total g.met.K.Ord.matches_eq c.args.self.now.places c.requires.from.1 (g.S.Side.key_at c.args.side) c.requires.from.0 c.requires.from.3 c.requires.from.4 c.loop-place.place p k ((c.loop-place.invariant.listed.first p).0 there) is)

pub loop-place-preserved : goal.loop-place-preserved
loop-place-preserved g c =
    let i = c.loop-place.invariant in
    let inside = c.loop-place-test.true in
    let least = effort_least (length c.loop-place.self.places) (length c.args.self.now.places) (omega (arith, i.listed.long, i.within)) in
    record {
      listed = one_more g.K.Ord.cmp (g.S.Side.key_at c.args.side) c.loop-place.place c.loop-place.self.places c.insert.new.self.places i.listed c.insert.ensures.adds (rw c.new-keys.ensures at c.insert.ensures.ascends) c.insert.ensures.len;
      within = omega (arith, inside, c.len-len.ensures.len);
      cells = c.insert.ensures.cells ∙ i.cells;
      compared = costs _ _ _ c.loop-place.place (most_height (length c.loop-place.self.places)) (most_height (length c.args.self.now.places)) i.compared c.insert.ensures.comparisons least;
      touched = costs _ _ _ c.loop-place.place (64 * (most_height (length c.loop-place.self.places) + 1)) (64 * (most_height (length c.args.self.now.places) + 1)) i.touched c.insert.ensures.touches (omega (arith, least));
    }

pub returns-clause-listing : goal.returns-clause-listing
returns-clause-listing g c = all_listed g.K.Ord.cmp g.K.PartialEq.eq g.met.K.Ord.total g.met.K.Ord.matches_eq c.args.self.now.places c.requires.from.1 (g.S.Side.key_at c.args.side) c.requires.from.0 c.requires.from.3 c.requires.from.4 c.loop-place.self.places (subst (λ n. IsListedUpTo g.K.Ord.cmp (g.S.Side.key_at c.args.side) n c.loop-place.self.places) (omega (arith, c.loop-place-test.false, c.loop-place.invariant.within, c.len-len.ensures.len)) c.loop-place.invariant.listed)

pub returns-clause-cells : goal.returns-clause-cells
returns-clause-cells g c to is = c.loop-place.invariant.cells ∙ is.2

pub returns-clause-comparisons : goal.returns-clause-comparisons
returns-clause-comparisons g c =
    let whole : c.loop-place.place ≡ length c.args.self.now.places = omega (arith, c.loop-place-test.false, c.loop-place.invariant.within, c.len-len.ensures.len) in
    let h = rw whole at c.loop-place.invariant.compared in
    omega (arith, h)

pub returns-clause-touches : goal.returns-clause-touches
returns-clause-touches g c =
    let whole : c.loop-place.place ≡ length c.args.self.now.places = omega (arith, c.loop-place-test.false, c.loop-place.invariant.within, c.len-len.ensures.len) in
    let h = rw whole at c.loop-place.invariant.touched in
    omega (arith, h)

pub returns-clause-walk : goal.returns-clause-walk
returns-clause-walk g c to keys moved is listing listing' same = order_walks_alike g.K.Ord.cmp g.K.PartialEq.eq g.met.K.Ord.total g.met.K.Ord.matches_eq c.args.self.now.places c.loop-place.self.places keys moved listing listing' same

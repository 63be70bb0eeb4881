use Rattle.std.proofs.Common.{subst, ◌∙◌, ap, arith, get_or, length}
use Rattle.std.specs.List.Sorted.{IsPermutation}
use Rattle.bimap_list.proofs.Ranking.{AreRanked, all_ranked, at_position, one_ranked, unranked}
use Rattle.bimap_list.proofs.linked_list.LinkedList.ranks.Goals as goal

pub unreachable-requires : goal.unreachable-requires
unreachable-requires c = (at_position c.args.self.now.places c.deref-place-items.result.now c.in_ok-sorted.sorted.items c.sort_unstable.new.self.items c.deref.result.now c.loop-place.place-index c.binary_search.result (c.deref-place-items.ensures.value ∙ c.in_ok-places.ensures.items) c.in_ok-sorted.ensures.items c.sort_unstable.ensures.permutation c.sort_unstable.ensures.sorted c.to_vec.ensures.distinct c.deref.ensures.value c.loop-place-test.true c.binary_search.ensures.position).not_missed c.in_default.not-Ok

pub push_back-requires-clause-absent : goal.push_back-requires-clause-absent
push_back-requires-clause-absent c =
    let here = at_position c.args.self.now.places c.deref-place-items.result.now c.in_ok-sorted.sorted.items c.sort_unstable.new.self.items c.deref.result.now c.loop-place.place-index c.binary_search.result (c.deref-place-items.ensures.value ∙ c.in_ok-places.ensures.items) c.in_ok-sorted.ensures.items c.sort_unstable.ensures.permutation c.sort_unstable.ensures.sorted c.to_vec.ensures.distinct c.deref.ensures.value c.loop-place-test.true c.binary_search.ensures.position in
    unranked c.sort_unstable.new.self.items c.args.self.now.places c.loop-place.place-index (get_or c.deref-place-items.result.now c.loop-place.place-index 0) c.in-Ok.rank c.loop-place.list.places c.loop-place.invariant.ranked here.comes (here.stands c.in-Ok.rank c.in-Ok.is) c.to_vec.ensures.distinct

pub loop-place-preserved : goal.loop-place-preserved
loop-place-preserved c =
    let here = at_position c.args.self.now.places c.deref-place-items.result.now c.in_ok-sorted.sorted.items c.sort_unstable.new.self.items c.deref.result.now c.loop-place.place-index c.binary_search.result (c.deref-place-items.ensures.value ∙ c.in_ok-places.ensures.items) c.in_ok-sorted.ensures.items c.sort_unstable.ensures.permutation c.sort_unstable.ensures.sorted c.to_vec.ensures.distinct c.deref.ensures.value c.loop-place-test.true c.binary_search.ensures.position in
    record {
      ranked = one_ranked c.sort_unstable.new.self.items c.args.self.now.places c.loop-place.place-index (get_or c.deref-place-items.result.now c.loop-place.place-index 0) c.in-Ok.rank c.loop-place.list.places c.push_back.new.self.places c.loop-place.invariant.ranked here.comes (here.stands c.in-Ok.rank c.in-Ok.is) c.push_back.ensures.places c.push_back.ensures.distinct;
      cells = c.push_back.ensures.cells ∙ c.loop-place.invariant.cells;
    }

pub returns-clause-ranks : goal.returns-clause-ranks
returns-clause-ranks c =
    let places = c.args.self.now.places in
    let sorted = c.sort_unstable.new.self.items in
    all_ranked places sorted (subst (λ xs. IsPermutation xs sorted) c.in_ok-sorted.ensures.items c.sort_unstable.ensures.permutation) c.sort_unstable.ensures.sorted c.to_vec.ensures.distinct c.loop-place.list.places
    (subst (λ n. AreRanked sorted places n c.loop-place.list.places) (omega (arith, c.loop-place-test.false, c.loop-place.auto.place-index-end, ap length (c.deref-place-items.ensures.value ∙ c.in_ok-places.ensures.items))) c.loop-place.invariant.ranked)

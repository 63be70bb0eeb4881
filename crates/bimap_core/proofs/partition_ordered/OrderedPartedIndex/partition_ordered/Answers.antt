use Rattle.std.proofs.Common.{◌∙◌, None, ap, arith, length, refl}
use Rattle.std.proofs.lemmas.List.{length-set}
use Rattle.bimap_base.proofs.Walk.{count_walked}
use Rattle.bimap_core.proofs.Ascending.{order_walk, count_listed, rank_live, pair_at_rank, walked_without}
use Rattle.bimap_core.proofs.InOrder.{start, may, room_for, passed, taken_out, ended}
use Rattle.bimap_core.proofs.Retaining.{tested_at}
use Rattle.bimap_core.proofs.partition_ordered.OrderedPartedIndex.partition_ordered.Goals as goal

pub loop-rank-init : goal.loop-rank-init
loop-rank-init g c = record { so_far = start g.F.FnMut g.S.Outlet.has_room g.S.Outlet.receives c.args.goes c.args.f c.args.outlet.now _ c.requires.fits; room = refl; batch = c.new-batch.ensures }

pub place-place-requires-clause-listed : goal.place-place-requires-clause-listed
place-place-requires-clause-listed g c =
    let t = c.loop-rank.table in
    let walk = order_walk (λ p. p.0) g.met.K.Ord.total g.met.K.Ord.matches_eq t.pairs t.left.places t.left_listing in
    omega (arith, c.loop-rank-test.true, c.len.ensures.value, count_listed t.pairs t.left.places walk)

pub goes_at-requires : goal.goes_at-requires
goes_at-requires g c = record {
  may = λ p has.
      let t = c.loop-rank.table in
      let walk = order_walk (λ p. p.0) g.met.K.Ord.total g.met.K.Ord.matches_eq t.pairs t.left.places t.left_listing in
      let count = count_walked t.pairs t.left.places walk in
      may g.F.FnMut g.S.Outlet.has_room g.S.Outlet.receives c.args.goes c.args.f c.loop-rank.f c.args.outlet.now c.loop-rank.outlet _ _ c.loop-rank.rank c.loop-rank.invariant.so_far p
      (pair_at_rank t.pairs t.left.places (λ q. (walk.live q).0) c.loop-rank.rank c.place-place.result c.place-place.ensures.place p has)
      (omega arith) c.requires.may;
}

pub receive-requires : goal.receive-requires
receive-requires g c = record {
  room =
      let t = c.loop-rank.table in
      let walk = order_walk (λ p. p.0) g.met.K.Ord.total g.met.K.Ord.matches_eq t.pairs t.left.places t.left_listing in
      let count = count_walked t.pairs t.left.places walk in
      room_for g.F.FnMut g.S.Outlet.has_room g.S.Outlet.receives c.args.goes c.args.f c.loop-rank.f c.args.outlet.now c.loop-rank.outlet _ _ c.loop-rank.rank c.loop-rank.invariant.so_far c.take.result
      (pair_at_rank t.pairs t.left.places (λ q. (walk.live q).0) c.loop-rank.rank c.place-place.result c.place-place.ensures.place c.take.result c.take.ensures.was)
      (omega arith);
}

pub loop-rank-preserved-then-goes_at : goal.loop-rank-preserved-then-goes_at
loop-rank-preserved-then-goes_at g c =
    let t = c.loop-rank.table in
    let n = c.take.new.self in
    let walk = order_walk (λ p. p.0) g.met.K.Ord.total g.met.K.Ord.matches_eq t.pairs t.left.places t.left_listing in
    let count = count_walked t.pairs t.left.places walk in
    let place = c.place-place.result in
    let p = c.take.result in
    let has = c.take.ensures.was in
    record {
      so_far = taken_out g.F.FnMut g.S.Outlet.has_room g.S.Outlet.receives c.args.goes c.args.f c.loop-rank.f c.args.outlet.now c.loop-rank.outlet _ _ c.loop-rank.rank c.loop-rank.invariant.so_far p
          (pair_at_rank t.pairs t.left.places (λ q. (walk.live q).0) c.loop-rank.rank place c.place-place.ensures.place p has)
          (omega arith) c.goes_at.new.f (tested_at g.F.FnMut _ p c.loop-rank.f _ c.goes_at.new.f has c.if-goes_at.ensures.tested) _
          (walked_without g.met.K.Eq.laws g.met.R.Eq.laws (λ p. p.0) g.met.K.Ord.total g.met.K.Ord.matches_eq t.pairs n.pairs t.left.places n.left.places t.left_listing n.left_listing t.apart place p has c.take.ensures.pairs)
          c.receive.new.self c.receive.ensures.received c.receive.ensures.rest;
      room = ap length c.take.ensures.pairs ∙ length-set t.pairs place None ∙ c.loop-rank.invariant.room;
      batch = c.new-batch-then-goes_at.ensures;
    }

pub loop-rank-preserved : goal.loop-rank-preserved
loop-rank-preserved g c =
    let t = c.loop-rank.table in
    let walk = order_walk (λ p. p.0) g.met.K.Ord.total g.met.K.Ord.matches_eq t.pairs t.left.places t.left_listing in
    let count = count_walked t.pairs t.left.places walk in
    let place = c.place-place.result in
    let here = rank_live t.pairs t.left.places (λ q. (walk.live q).0) c.loop-rank.rank place c.place-place.ensures.place in
    record {
      so_far = passed g.F.FnMut g.S.Outlet.has_room g.S.Outlet.receives c.args.goes c.args.f c.loop-rank.f c.args.outlet.now c.loop-rank.outlet _ _ c.loop-rank.rank c.loop-rank.invariant.so_far here.0
          (pair_at_rank t.pairs t.left.places (λ q. (walk.live q).0) c.loop-rank.rank place c.place-place.ensures.place here.0 here.1)
          (omega arith) c.goes_at.new.f (tested_at g.F.FnMut _ here.0 c.loop-rank.f _ c.goes_at.new.f here.1 c.if-goes_at.ensures.tested);
      room = c.loop-rank.invariant.room;
      batch = c.place-place.ensures.batch;
    }

pub returns-clause-parted : goal.returns-clause-parted
returns-clause-parted g c =
    let t = c.loop-rank.table in
    let walk = order_walk (λ p. p.0) g.met.K.Ord.total g.met.K.Ord.matches_eq t.pairs t.left.places t.left_listing in
    ended g.F.FnMut g.S.Outlet.has_room g.S.Outlet.receives c.args.goes c.args.f c.loop-rank.f c.args.outlet.now c.loop-rank.outlet _ _ c.loop-rank.rank c.loop-rank.invariant.so_far (omega (arith, c.loop-rank-test.false, c.len.ensures.value, count_walked t.pairs t.left.places walk))

use Rattle.std.proofs.Common.{◌≡◌, ◌<◌, ◌∙◌, ◌∷◌, None, Some, ap, arith, Contains, get_or, length, refl, sym, ℕ}
use Rattle.std.specs.Prelude.{slice_get}
use Rattle.std.proofs.lemmas.List.{length-set}
use Rattle.std.proofs.lemmas.Option.{get_or_from_slice_get, slice_get-get_or, slice_get_within}
use Rattle.bimap_base.specs.PairsAt.{pairs_at}
use Rattle.bimap_base.specs.Slots.{IsLive}
use Rattle.bimap_base.proofs.Walk.{count_walked, long_at}
use Rattle.bimap_base.specs.Positions.{IsTakenOut}
use Rattle.bimap_core.proofs.Ascending.{inside, pair_at_rank, rank_live}
use Rattle.bimap_core.proofs.InOrder.{ended, goes_along, may, room_for, start, stays_along}
use Rattle.bimap_core.proofs.Permuted.{distinct, walk_apart}
use Rattle.bimap_core.proofs.Retaining.{tested_at}
use Rattle.bimap_core.proofs.Positions.{insertion_walk, shown_without}
use Rattle.bimap_core.proofs.partition_ordered.InsertionOrderPartedIndex.partition_ordered.Goals as goal
use Rattle.bimap_core.proofs.partition_ordered.InsertionOrderPartedIndex.partition_ordered.Goals.{then-goes_at, else-goes_at}

pub loop-init : goal.loop-init
loop-init g c =
    record {
      along = record {
        rank = 0;
        so_far = start g.F.FnMut g.S.Outlet.has_room g.S.Outlet.receives c.args.goes c.args.f c.args.outlet.now _ c.requires.fits;
        here = c.first-next.ensures ∙ ap (λ l. slice_get l.places 0) c.list.ensures;
        count = omega arith;
      };
      room = refl;
    }

pub unreachable-requires : goal.unreachable-requires
unreachable-requires g c =
    let t = c.loop.table in
    let i = c.loop.invariant.along in
    let walk = insertion_walk (λ p. p.0) g.K.PartialEq.eq g.I.Index.is_listing g.met.I.Index.settled t.pairs t.left.index t.left.list.places t.left_listing in
    let all = c.args.table.now in
    let walk_of_all = insertion_walk (λ p. p.0) g.K.PartialEq.eq g.I.Index.is_listing g.met.I.Index.settled all.pairs all.left.index all.left.list.places all.left_listing in
    let inside : i.rank < length t.left.list.places = omega (arith, i.count, c.loop-test.true, c.len-end.ensures.value, count_walked all.pairs all.left.list.places walk_of_all, long_at t.pairs t.left.list.places (λ q. (walk.live q).0)) in
    let next : c.loop.next ≡ Some (get_or t.left.list.places i.rank 0) = i.here ∙ slice_get-get_or t.left.list.places i.rank 0 inside in
    let none : c.loop.next ≡ None = c.in_default.is in
    cc

pub after-next-requires : goal.after-next-requires
after-next-requires g c =
    let i = c.loop.invariant.along in
    let here : slice_get c.list-in-loop.result.now.places i.rank ≡ Some c.in-Some.place = ap (λ l. slice_get l.places i.rank) c.list-in-loop.ensures ∙ sym i.here ∙ c.in-Some.is in
    (i.rank, slice_get_within _ i.rank c.in-Some.place here, get_or_from_slice_get _ i.rank c.in-Some.place c.in-Some.place here)

pub goes_at-requires : goal.goes_at-requires
goes_at-requires g c = record {
  may = λ p has.
      let t = c.loop.table in
      let i = c.loop.invariant.along in
      let walk = insertion_walk (λ p. p.0) g.K.PartialEq.eq g.I.Index.is_listing g.met.I.Index.settled t.pairs t.left.index t.left.list.places t.left_listing in
      let here = sym i.here ∙ c.in-Some.is in
      may g.F.FnMut g.S.Outlet.has_room g.S.Outlet.receives c.args.goes c.args.f c.loop.f c.args.outlet.now c.loop.outlet _ _ i.rank i.so_far p
      (pair_at_rank t.pairs t.left.list.places (λ q. (walk.live q).0) i.rank c.in-Some.place here p has)
      (inside t.pairs t.left.list.places (λ q. (walk.live q).0) i.rank c.in-Some.place here p has) c.requires.may;
}

pub receive-requires : goal.receive-requires
receive-requires g c = record {
  room =
      let t = c.loop.table in
      let i = c.loop.invariant.along in
      let walk = insertion_walk (λ p. p.0) g.K.PartialEq.eq g.I.Index.is_listing g.met.I.Index.settled t.pairs t.left.index t.left.list.places t.left_listing in
      let here = sym i.here ∙ c.in-Some.is in
      room_for g.F.FnMut g.S.Outlet.has_room g.S.Outlet.receives c.args.goes c.args.f c.loop.f c.args.outlet.now c.loop.outlet _ _ i.rank i.so_far c.take.result
      (pair_at_rank t.pairs t.left.list.places (λ q. (walk.live q).0) i.rank c.in-Some.place here c.take.result c.take.ensures.was)
      (inside t.pairs t.left.list.places (λ q. (walk.live q).0) i.rank c.in-Some.place here c.take.result c.take.ensures.was);
}

pub loop-preserved : goal.loop-preserved
loop-preserved g c =
    let t = c.loop.table in
    let i = c.loop.invariant.along in
    let place = c.in-Some.place in
    let places = t.left.list.places in
    let walk = insertion_walk (λ p. p.0) g.K.PartialEq.eq g.I.Index.is_listing g.met.I.Index.settled t.pairs t.left.index places t.left_listing in
    let all = c.args.table.now in
    let walk_of_all = insertion_walk (λ p. p.0) g.K.PartialEq.eq g.I.Index.is_listing g.met.I.Index.settled all.pairs all.left.index all.left.list.places all.left_listing in
    let more : c.loop.counter < length (pairs_at all.pairs all.left.list.places) = omega (arith, c.loop-test.true, c.len-end.ensures.value, count_walked all.pairs all.left.list.places walk_of_all) in
    let live : (q : ℕ) → Contains places q → IsLive t.pairs q = λ q. (walk.live q).0 in
    let here : slice_get places i.rank ≡ Some place = sym i.here ∙ c.in-Some.is in
    let after = rw c.list-in-loop.ensures at c.after-next.ensures in
    elim c.if-goes_at.branch [
      | then-goes_at w ↦
          let p = w.take.result in
          let has = w.take.ensures.was in
          let out : IsTakenOut places place w.take.new.self.left.list.places = w.take.ensures.left_places tt in
          rw (w.table-is, w.outlet-is) record {
            along = goes_along g.F.FnMut g.S.Outlet.has_room g.S.Outlet.receives c.args.goes c.args.f c.loop.f c.args.outlet.now c.loop.outlet _ _ places c.loop.next c.loop.counter i place c.in-Some.is p
                (pair_at_rank t.pairs places live i.rank place here p has) more c.after-next.result after c.goes_at.new.f (tested_at g.F.FnMut _ p c.loop.f _ c.goes_at.new.f has (rw w.if-goes_at.true at c.goes_at.ensures.tested)) _ _
                (distinct g.K.PartialEq.eq g.R.PartialEq.eq g.met.K.Eq.laws _ (walk_apart g.met.K.Eq.laws g.met.R.Eq.laws t.pairs places walk t.apart)) walk.distinct
                (rw w.take.ensures.pairs (shown_without t.pairs place p has places walk.distinct None _ out)) out w.receive.new.self w.receive.ensures.received w.receive.ensures.rest;
            room = ap length w.take.ensures.pairs ∙ length-set t.pairs place None ∙ c.loop.invariant.room;
          }
      | else-goes_at w ↦
          let held = rank_live t.pairs places live i.rank place here in
          rw (w.table-is, w.outlet-is) record {
            along = stays_along g.F.FnMut g.S.Outlet.has_room g.S.Outlet.receives c.args.goes c.args.f c.loop.f c.args.outlet.now c.loop.outlet _ _ places c.loop.next c.loop.counter i place c.in-Some.is held.0
                (pair_at_rank t.pairs places live i.rank place here held.0 held.1) more c.after-next.result after c.goes_at.new.f (tested_at g.F.FnMut _ held.0 c.loop.f _ c.goes_at.new.f held.1 (rw w.if-goes_at.false at c.goes_at.ensures.tested));
            room = c.loop.invariant.room;
          }
    ]

pub returns : goal.returns
returns g c =
    let i = c.loop.invariant.along in
    let all = c.args.table.now in
    let walk_of_all = insertion_walk (λ p. p.0) g.K.PartialEq.eq g.I.Index.is_listing g.met.I.Index.settled all.pairs all.left.index all.left.list.places all.left_listing in
    record {
      parted = ended g.F.FnMut g.S.Outlet.has_room g.S.Outlet.receives c.args.goes c.args.f c.loop.f c.args.outlet.now c.loop.outlet _ _ i.rank i.so_far (omega (arith, i.count, c.loop-test.false, c.len-end.ensures.value, count_walked all.pairs all.left.list.places walk_of_all));
      room = c.loop.invariant.room;
    }
